-- Numbers of instances, rising.
use Rattle.std.specs.Prelude.{◌≡◌, ◌<◌, ◌≤◌, ℕ, List, MatchResult, Result, length, slice_index_or}

-- the index of a number among others, or else the index between those below it and those above
abbrev pub IsIndex : List ℕ → ℕ → Result ℕ ℕ → Type 0
IsIndex ids id slot =
    MatchResult slot
    (λ i. (i < length ids) × (slice_index_or ids i 0 ≡ id))
    (λ i.
    (i ≤ length ids) × ((k : ℕ) → k < i → slice_index_or ids k 0 < id)
    × ((k : ℕ) → i ≤ k → k < length ids → id < slice_index_or ids k 0))
