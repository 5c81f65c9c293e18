-- Masks of bits: bit k says whether element k passes a test.
use Rattle.std.proofs.Common.{◌≡◌, ℕ, zero, suc, ◌+◌, ◌*◌, ◌/◌, ◌^◌, Bool, true, false, not, cond}
use Rattle.std.proofs.Common.{List, [], ◌∷◌, ◌++◌, length, drop, map, refl, sym, ap, ◌∙◌, arith}
use Rattle.std.proofs.Math.Nat.{div-one, zero-div, div-div-eq-div-mul, two-pow-succ, pow-suc, mul_assoc}
use Rattle.std.specs.List.{prefix_len}
use Rattle.std.specs.Simd.Lanes.{mask_l}

half : (b : Bool) (n : ℕ) → (cond b 1 0 + 2 * n) / 2 ≡ n
half true n = omega arith
half false n = omega arith

pub mask-drop : (k : ℕ) (ms : List Bool) → mask_l ms / 2 ^ k ≡ mask_l (drop k ms)
mask-drop zero ms = div-one (mask_l ms)
mask-drop (suc k) [] = zero-div (2 ^ suc k)
mask-drop (suc k) (b ∷ bs) =
    let double : 2 ^ suc k ≡ 2 * 2 ^ k = omega (arith, two-pow-succ k) in
    ap (λ n. mask_l (b ∷ bs) / n) double ∙ sym (div-div-eq-div-mul (mask_l (b ∷ bs)) 2 (2 ^ k)) ∙ ap (λ n. n / 2 ^ k) (half b (mask_l bs)) ∙ mask-drop k bs

pub mask-append : (xs ys : List Bool) → mask_l (xs ++ ys) ≡ mask_l xs + mask_l ys * 2 ^ length xs
mask-append [] ys = omega arith
mask-append (b ∷ xs) ys =
    let more = mask-append xs ys in
    let double : mask_l ys * 2 ^ suc (length xs) ≡ mask_l ys * 2 ^ length xs * 2 =
    ap (λ n. mask_l ys * n) (pow-suc 2 (length xs)) ∙ sym (mul_assoc (mask_l ys) (2 ^ length xs) 2) in
    omega (arith, more, double)

-- bytes of which none passes a test have no bit set
pub none-set : (p : ℕ → Bool) (xs : List ℕ) → prefix_len (λ b. not (p b)) xs ≡ length xs → mask_l (map p xs) ≡ 0
none-set p [] h = refl
none-set p (x ∷ xs) h = by (p x) h (none-set p xs)
  where
    by : (b : Bool) → cond (not b) (1 + prefix_len (λ k. not (p k)) xs) 0 ≡ suc (length xs)
        → (prefix_len (λ k. not (p k)) xs ≡ length xs → mask_l (map p xs) ≡ 0) → cond b 1 0 + 2 * mask_l (map p xs) ≡ 0
    by true e more = absurd (omega (arith, e))
    by false e more = let none = more (omega (arith, e)) in omega (arith, none)
