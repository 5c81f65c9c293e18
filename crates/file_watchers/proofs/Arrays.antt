-- The first elements of an array that can have more.
use Rattle.std.proofs.Common.{◌≡◌, ℕ, zero, suc, ◌+◌, ◌-◌, ◌<◌, ◌≤◌, ◌++◌, ◌∷◌, [], List, length, take, drop, set}
use Rattle.std.proofs.Common.{refl, ap, ◌∙◌, arith, length-take-le}
use Rattle.std.proofs.Math.Seq.{paste, take_at}

first : {A : Type 0} (xs rest : List A) (n k : ℕ) → k ≡ n → n ≤ length xs → take n (take k xs ++ rest) ≡ take n xs
first xs rest n k same w = take_at (take k xs) rest n (length-take-le k xs (omega (arith, same, w)) ∙ same) ∙ ap (λ j. take j xs) same

joined : {A : Type 0} (xs rest : List A) (n i k : ℕ) (x : A) → i + k ≡ n → n < length xs
    → take (suc n) (set (take (suc i) xs ++ take k (drop i xs) ++ rest) i x) ≡ take i (take n xs) ++ x ∷ drop i (take n xs)
joined [] rest n i k x e w = absurd (omega (arith, w))
joined (y ∷ ys) rest n zero k x e w = ap (λ zs. x ∷ zs) (first (y ∷ ys) rest n k (omega (arith, e)) (omega (arith, w)))
joined (y ∷ ys) rest zero (suc i) k x e w = absurd (omega (arith, e))
joined (y ∷ ys) rest (suc n) (suc i) k x e w = ap (λ zs. y ∷ zs) (joined ys rest n i k x (omega (arith, e)) (omega (arith, w)))

left : {A : Type 0} (xs rest : List A) (m i k : ℕ) → i + k ≡ m → m < length xs
    → take m (take i xs ++ take k (drop (suc i) xs) ++ rest) ≡ take i (take (suc m) xs) ++ drop (suc i) (take (suc m) xs)
left [] rest m i k e w = absurd (omega (arith, w))
left (y ∷ ys) rest m zero k e w = first ys rest m k (omega (arith, e)) (omega (arith, w))
left (y ∷ ys) rest zero (suc i) k e w = absurd (omega (arith, e))
left (y ∷ ys) rest (suc m) (suc i) k e w = ap (λ zs. y ∷ zs) (left ys rest m i k (omega (arith, e)) (omega (arith, w)))

-- one joins them at an index, and those behind it move up
pub take-in : {A : Type 0} (xs : List A) (n i : ℕ) (x : A) → i ≤ n → n < length xs
    → take (n + 1) (set (paste xs (i + 1) (drop i xs) (n - i)) i x) ≡ take i (take n xs) ++ x ∷ drop i (take n xs)
take-in xs n i x h w =
    let rest = drop (i + 1 + (n - i)) xs in
    let more : n + 1 ≡ suc n = omega arith in
    let next : i + 1 ≡ suc i = omega arith in
    (λ k. take (more k) (set (take (next k) xs ++ take (n - i) (drop i xs) ++ rest) i x))
    ∙ joined xs rest n i (n - i) x (omega (arith, h)) w

-- one at an index leaves them, and those behind it follow
pub take-out : {A : Type 0} (xs : List A) (n i : ℕ) → i < n → n ≤ length xs
    → take (n - 1) (paste xs i (drop (i + 1) xs) (n - (i + 1))) ≡ take i (take n xs) ++ drop (suc i) (take n xs)
take-out xs n i h w =
    let rest = drop (i + (n - (i + 1))) xs in
    let next : i + 1 ≡ suc i = omega arith in
    let all : suc (n - 1) ≡ n = omega (arith, h) in
    (λ k. take (n - 1) (take i xs ++ take (n - (i + 1)) (drop (next k) xs) ++ rest))
    ∙ left xs rest (n - 1) i (n - (i + 1)) (omega (arith, h)) (omega (arith, h, w))
    ∙ (λ k. take i (take (all k) xs) ++ drop (suc i) (take (all k) xs))

-- one at an index is replaced
pub take-set : {A : Type 0} (xs : List A) (n i : ℕ) (x : A) → i < n → take n (set xs i x) ≡ set (take n xs) i x
take-set xs zero i x h = absurd (omega (arith, h))
take-set [] (suc n) i x h = refl
take-set (y ∷ ys) (suc n) zero x h = refl
take-set (y ∷ ys) (suc n) (suc i) x h = ap (λ zs. y ∷ zs) (take-set ys n i x (omega (arith, h)))
