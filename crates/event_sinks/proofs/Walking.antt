-- The tracks, walked over in rising order of their numbers.
use Rattle.std.proofs.Common.{◌≡◌, ℕ, List, [], ◌∷◌, get_or, Some, None, inl, inr, refl, sym, ◌∙◌, subst}
use Rattle.std.specs.BTreeMap as tree
use Rattle.std.specs.BTreeMap.{BTreeMap, is_at}
use Rattle.std.specs.Cmp.{nat_cmp_is, nat_cmp_total, unsigned_tied}
use Rattle.std.specs.List.{All}
use Rattle.std.specs.List.Sorted.{IsStrictlySortedBy}
use Rattle.std.specs.Map.{keys_of, lookup}
use Rattle.std.specs.Ordering.{nat_cmp}
use Rattle.std.specs.declared.cmp.Ordering.TheVariants.{Less}
use Rattle.std.proofs.lemmas.Bool.{cases_eq, ne_eqb}
use Rattle.std.proofs.lemmas.List.Elements.{All-head, All-tail}
use Rattle.std.proofs.lemmas.Map.{lookup-none}
use Rattle.std.proofs.lemmas.Map.Entries.{lookup_tail, none_below_head}
use Rattle.std.proofs.lemmas.Map.Keys.{sorted_tail}
use Rattle.shared_tree.specs.Calls.{BookContents}
use Rattle.event_sinks.specs.declared.audit.SettleFault.{SettleFault}
use Rattle.event_sinks.specs.declared.served.Track.{Track}
use Rattle.event_sinks.specs.Audited.{IsFaultAt, IsFirstFault, IsServedAt, Outcome}
use Rattle.event_sinks.specs.Tracks.{IsTracked, track_at}

abbrev Entry : Type 0
Entry = ℕ × Track

-- these tracks are left: their numbers rise, they are known, and every number that has none was served
pub record IsWalked (b : BookContents) (es : List Outcome) (left : List (ℕ × Track)) : Type 0 where
  pub rise : IsStrictlySortedBy nat_cmp (keys_of left)
  pub tracked : All (λ (e : ℕ × Track). IsTracked b es [] e.0 (Some e.1)) left
  pub served : (n : ℕ) → lookup (is_at (nat_cmp n)) left ≡ None → IsServedAt b es n

module _ (b : BookContents) (es : List Outcome) where
  untracked : (n : ℕ) → IsTracked b es [] n None → IsServedAt b es n
  untracked n h = inr h.is_noted

  pub walked_none : (m : BTreeMap ℕ Track) → tree.IsOrdered nat_cmp m
      → All (λ (e : ℕ × Track). tree.get nat_cmp m e.0 ≡ Some e.1) m.entries
      → ((n : ℕ) → IsTracked b es [] n (track_at m n)) → IsWalked b es m.entries
  walked_none m rise found known = record {
    rise = rise;
    tracked = λ k d within. subst (IsTracked b es [] (get_or m.entries k d).0) (found k d within) (known (get_or m.entries k d).0);
    served = λ n none. untracked n (subst (IsTracked b es [] n) none (known n));
  }

  module _ (n : ℕ) (t : Track) (left : List (ℕ × Track)) (h : IsWalked b es ((n, t) ∷ left)) where
    pub walked_known : IsTracked b es [] n (Some t)
    walked_known = All-head (λ (e : ℕ × Track). IsTracked b es [] e.0 (Some e.1)) (n, t) left h.tracked

    pub walked_on : IsServedAt b es n → IsWalked b es left
    walked_on served = record {
      rise = sorted_tail nat_cmp n (keys_of left) h.rise;
      tracked = All-tail (λ (e : ℕ × Track). IsTracked b es [] e.0 (Some e.1)) (n, t) left h.tracked;
      served = λ q none. elim (cases_eq q n) [
        | inl here ↦ subst (IsServedAt b es) (sym here) served
        | inr off ↦ h.served q (lookup_tail (is_at (nat_cmp q)) (n, t) left (unsigned_tied q n ∙ ne_eqb q n off) ∙ none)
      ];
    }

    pub walked_fault : (f : SettleFault) → IsFaultAt b es n f → IsFirstFault b es f
    walked_fault f is = (
      n,
      is,
      λ m below.
          h.served m (lookup-none (is_at (nat_cmp m)) ((n, t) ∷ left) (none_below_head nat_cmp_total m (n, t) left h.rise (sym (nat_cmp_is m n Less below)))),
    )

  pub walked_all : IsWalked b es [] → (n : ℕ) → IsServedAt b es n
  walked_all h n = h.served n refl
