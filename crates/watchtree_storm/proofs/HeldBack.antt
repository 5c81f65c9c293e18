-- What a gate that was asked turn by turn has answered.
use Rattle.std.proofs.Common.{◌+◌, ℕ, Bool, false, inl, inr, sym, subst, arith}
use Rattle.std.proofs.lemmas.Bool.{cases_eq}
use Rattle.watchtree_storm.specs.Storm.{IsHeldBack}

-- nothing, at first
pub held-at-first : (passes : ℕ → Bool → Type 0) → IsHeldBack passes 0
held-at-first passes turn below = absurd (omega (arith, below))

-- a turn more
pub held-more : (passes : ℕ → Bool → Type 0) (n : ℕ) → IsHeldBack passes n → passes n false → IsHeldBack passes (n + 1)
held-more passes n before now turn below =
    elim (cases_eq turn n) [
      | inl same ↦ subst (λ (k : ℕ). passes k false) (sym same) now
      | inr other ↦ before turn (omega (arith, below, other))
    ]
