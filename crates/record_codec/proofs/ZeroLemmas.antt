-- The first zero byte, by a mask of the first block.
use Rattle.std.proofs.Common.{◌≡◌, ℕ, ◌+◌, ◌*◌, ◌<◌, ◌≤◌, ◌++◌, Bool, true, false, not, cond, List, [], ◌∷◌, length, take, drop, map}
use Rattle.std.proofs.Common.{refl, ap, ◌∙◌, arith, subst}
use Rattle.std.specs.List.{position_or_len, prefix_len}
use Rattle.std.specs.Simd.Lanes.{mask_l}
use Rattle.std.proofs.lemmas.List.{length-take-le, take-append-drop}
use Rattle.std.proofs.lemmas.Simd.{trailing_mask_l}
use lib.Count.{count_trailing_zeros}
use Rattle.record_codec.specs.Faults.{is_zero}

-- where a bit is set, nothing behind changes the index of the first
front-decides : (p : ℕ → Bool) (xs ys : List ℕ) → 0 < mask_l (map p xs)
    → prefix_len (λ x. not (p x)) xs ≡ prefix_len (λ x. not (p x)) (xs ++ ys)
front-decides p [] ys some = absurd (omega (arith, some))
front-decides p (x ∷ xs) ys some = by (p x) some (front-decides p xs ys)
  where
    by : (b : Bool) → 0 < cond b 1 0 + 2 * mask_l (map p xs)
        → (0 < mask_l (map p xs) → prefix_len (λ k. not (p k)) xs ≡ prefix_len (λ k. not (p k)) (xs ++ ys))
        → cond (not b) (1 + prefix_len (λ k. not (p k)) xs) 0 ≡ cond (not b) (1 + prefix_len (λ k. not (p k)) (xs ++ ys)) 0
    by true some more = refl
    by false some more = ap (λ n. 1 + n) (more (omega (arith, some)))

-- where no bit is set, the index of the first is counted on
front-passes : (p : ℕ → Bool) (xs ys : List ℕ) → mask_l (map p xs) ≡ 0
    → prefix_len (λ x. not (p x)) (xs ++ ys) ≡ length xs + prefix_len (λ x. not (p x)) ys
front-passes p [] ys none = omega arith
front-passes p (x ∷ xs) ys none = by (p x) none (front-passes p xs ys)
  where
    by : (b : Bool) → cond b 1 0 + 2 * mask_l (map p xs) ≡ 0
        → (mask_l (map p xs) ≡ 0 → prefix_len (λ k. not (p k)) (xs ++ ys) ≡ length xs + prefix_len (λ k. not (p k)) ys)
        → cond (not b) (1 + prefix_len (λ k. not (p k)) (xs ++ ys)) 0 ≡ length (x ∷ xs) + prefix_len (λ k. not (p k)) ys
    by true none more = absurd (omega (arith, none))
    by false none more = let e = more (omega (arith, none)) in omega (arith, e)

-- a zero byte is in the first block
pub first-zero : (bytes block : List ℕ) (bits : ℕ) → 16 ≤ length bytes → block ≡ take 16 bytes → bits ≡ mask_l (map is_zero block) → 0 < bits
    → count_trailing_zeros 64 bits ≡ position_or_len is_zero bytes
first-zero bytes block bits enough front mask some =
    let set : 0 < mask_l (map is_zero block) = subst (λ n. 0 < n) mask some in
    let few : length block ≤ 64 = omega (arith, ap (λ (t : List ℕ). length t) front, length-take-le 16 bytes enough) in
    ap (count_trailing_zeros 64) mask ∙ trailing_mask_l is_zero 64 block few set
    ∙ front-decides is_zero block (drop 16 bytes) set
    ∙ ap (position_or_len is_zero) (ap (λ (t : List ℕ). t ++ drop 16 bytes) front ∙ take-append-drop 16 bytes)

-- none is in the first block
pub no-zero : (bytes block : List ℕ) → 16 ≤ length bytes → block ≡ take 16 bytes → mask_l (map is_zero block) ≡ 0
    → position_or_len is_zero bytes ≡ 16 + position_or_len is_zero (drop 16 bytes)
no-zero bytes block enough front none =
    let all = ap (position_or_len is_zero) (ap (λ (t : List ℕ). t ++ drop 16 bytes) front ∙ take-append-drop 16 bytes) in
    let on = front-passes is_zero block (drop 16 bytes) none in
    let len = ap (λ (t : List ℕ). length t) front ∙ length-take-le 16 bytes enough in
    omega (arith, all, on, len)
