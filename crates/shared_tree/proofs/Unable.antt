-- Why a call is not carried out, as rows.
use Rattle.std.proofs.Common.{◌≡◌, inl, inr, ◌+◌, ◌^◌, ◌||◌, nat_le, Bool, true, false, [], ◌∷◌, Some, length, refl, sym, ap, ◌∙◌}
use Rattle.std.proofs.lemmas.Bool.{le-leb, leb-true}
use Rattle.tree_paths.specs.Rows.{first_row, row}
use Rattle.tree_paths.specs.declared.refusal.Refusal.{Refusal}
use Rattle.tree_paths.specs.declared.refusal.Refusal.TheVariants.{Enomem, JournalFull, PipeFull}
use Rattle.tree_core.specs.declared.call.Call.{Call}
use Rattle.tree_core.specs.Journal.{IsSpent, Journaled, last_place, now}
use Rattle.shared_tree.specs.Calls.{IsForPipe, IsOutOfSpace, RefusalOf, is_spent}
use Rattle.shared_tree.specs.Held.{LacksSpace}

or-right : (b : Bool) → (b || true) ≡ true
or-right true = refl
or-right false = refl

spent : (s : Journaled) → IsSpent s → is_spent s ≡ true
spent s (inl full) = ap (λ b. b || nat_le (2 ^ 64) (last_place s + 1)) (le-leb s.start.limits.journal (length s.entries) full)
spent s (inr last) =
    ap (λ b. nat_le s.start.limits.journal (length s.entries) || b) (le-leb (2 ^ 64) (last_place s + 1) last)
    ∙ or-right (nat_le s.start.limits.journal (length s.entries))

-- both tests fail
not-spent : (s : Journaled) → (IsSpent s → ⊥) → is_spent s ≡ false
not-spent s free = by (nat_le s.start.limits.journal (length s.entries)) (nat_le (2 ^ 64) (last_place s + 1)) refl refl
  where
    by : (a b : Bool) → nat_le s.start.limits.journal (length s.entries) ≡ a → nat_le (2 ^ 64) (last_place s + 1) ≡ b → (a || b) ≡ false
    by true b e f = absurd (free (inl (leb-true s.start.limits.journal (length s.entries) e)))
    by false true e f = absurd (free (inr (leb-true (2 ^ 64) (last_place s + 1) f)))
    by false false e f = refl

pub unable : (s : Journaled) (e : Refusal) → LacksSpace s e → IsOutOfSpace s e
unable s e (inl (is, full)) = ap (λ b. first_row (row b JournalFull ∷ Some Enomem ∷ [])) (spent s full) ∙ ap Some (sym is)
unable s e (inr (is, free)) = ap (λ b. first_row (row b JournalFull ∷ Some Enomem ∷ [])) (not-spent s free) ∙ ap Some (sym is)

pub why-not : (s : Journaled) (c : Call) (e : Refusal) → LacksSpace s e → RefusalOf s c e
why-not s c e h = record { says_full = false; for_pipe = λ no. absurd (cc); first = unable s e h }

pub why-full : (s : Journaled) (c : Call) (e : Refusal) → e ≡ PipeFull → IsForPipe (now s) c → RefusalOf s c e
why-full s c e is at = record { says_full = true; for_pipe = λ _. at; first = ap Some (sym is) }
