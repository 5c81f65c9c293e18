-- A tree that is not open opens, as a tree of the root alone or as a fork.
use Rattle.std.proofs.Common.{◌≡◌, Bool, false, Option, Some, None, refl, sym, ◌∙◌, true≢false, inl}
use Rattle.std.specs.Prelude.{is_some, pos}
use Rattle.tree_core.specs.Journal.{Journaled}
use Rattle.watchtree_c.specs.declared.opened.Opened.{Opened}
use Rattle.watchtree_c.specs.Answers.{IsFork, IsOpened, IsOpenedAsFork, IsOpening}

pub closed_opens : (old : Option Opened) (ready : Bool) (new : Option Opened) → ready ≡ is_some old → ready ≡ false → IsOpening new → IsOpened old (pos 0) new
closed_opens (Some content) ready new agrees closed is = absurd (true≢false (sym agrees ∙ closed))
closed_opens None ready new agrees closed is = inl (refl, is)

pub closed_forks : (s : Journaled) (old : Option Opened) (ready : Bool) (new : Option Opened) → ready ≡ is_some old → ready ≡ false
    → IsFork s new → IsOpenedAsFork s old (pos 0) new
closed_forks s (Some content) ready new agrees closed is = absurd (true≢false (sym agrees ∙ closed))
closed_forks s None ready new agrees closed is = inl (refl, is)
