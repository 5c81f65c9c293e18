-- Fronts of bytes that were written.
use Rattle.std.specs.Prelude.{Result, Ok, Err, OnErr}
use Rattle.std.proofs.Common.{◌≡◌, ℕ, zero, suc, ◌+◌, List, [], ◌∷◌, ◌++◌, length, take, Option, refl, sym, ap, subst, arith}
use Rattle.std.specs.Io.KnownBytes.{Appends}
use Rattle.record_codec.proofs.Appending.{Appends-more}

take-front : (xs ys : List ℕ) (n : ℕ) → (m : ℕ) × (take m (xs ++ ys) ≡ take n xs)
take-front xs ys zero = (0, refl)
take-front [] ys (suc n) = (0, refl)
take-front (x ∷ xs) ys (suc n) = let p = take-front xs ys n in (suc p.0, ap (λ (t : List ℕ). x ∷ t) p.1)

take-past : (xs ys : List ℕ) (n : ℕ) → take (length xs + n) (xs ++ ys) ≡ xs ++ take n ys
take-past [] ys n = let e : 0 + n ≡ n = omega arith in rw e refl
take-past (x ∷ xs) ys n = let e : length (x ∷ xs) + n ≡ suc (length xs + n) = omega arith in rw e (ap (λ (t : List ℕ). x ∷ t) (take-past xs ys n))

-- a front of the first bytes is one of all
pub front_of_first : (a b : Option (List ℕ)) (xs ys : List ℕ) → (n : ℕ) × Appends a b (take n xs) → (n : ℕ) × Appends a b (take n (xs ++ ys))
front_of_first a b xs ys p = let m = take-front xs ys p.0 in (m.0, subst (Appends a b) (sym m.1) p.1)

-- so is a front of the next ones, behind all of the first
pub front_of_next : (a b c : Option (List ℕ)) (xs ys : List ℕ) → Appends a b xs → (n : ℕ) × Appends b c (take n ys) → (n : ℕ) × Appends a c (take n (xs ++ ys))
front_of_next a b c xs ys first p = (length xs + p.0, subst (Appends a c) (sym (take-past xs ys p.0)) (Appends-more a b c xs (take p.0 ys) first p.1))

-- what two facts at an error show together
pub on_err_both : {T E : Type 0} (r : Result T E) (P Q R : Type 0) → (P → Q → R) → OnErr r P → OnErr r Q → OnErr r R
on_err_both (Ok x) P Q R f p q = tt
on_err_both (Err y) P Q R f p q = f p q
