use Rattle.std.proofs.Common.{List, ℕ, length, ap, ◌∙◌, arith}
use Rattle.std.proofs.lemmas.List.{take_at}
use Rattle.tree_paths.specs.Paths.{names_of}
use Rattle.tree_paths.proofs.SlashedLemmas.{names-squeezed}
use Rattle.tree_paths.proofs.path_text.PathText.squeezed.Goals as goal

pub returns-then-len-gt-SHORT_MAX-clause-kept : goal.returns-then-len-gt-SHORT_MAX-clause-kept
returns-then-len-gt-SHORT_MAX-clause-kept c =
    let len = ap (λ (t : List ℕ). length t) c.squeeze.ensures in
    ap names_of (take_at c.squeeze.new.out _ c.in_ok-squeezed.squeezed.len (omega (arith, len, c.requires.len, c.in_ok-squeezed.ensures.len))
    ∙ c.squeeze.ensures)
    ∙ names-squeezed c.args.text.now c.requires.path

pub returns-clause-kept : goal.returns-clause-kept
returns-clause-kept c =
    let len = ap (λ (t : List ℕ). length t) c.squeeze-2.ensures in
    ap names_of (take_at c.squeeze-2.new.out _ c.args.len (omega (arith, len, c.requires.len)) ∙ c.squeeze-2.ensures)
    ∙ names-squeezed c.args.text.now c.requires.path
