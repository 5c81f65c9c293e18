-- What holds of each element and of each two elements, by recursion on the list.
use Rattle.std.proofs.Common.{zero, suc, List, [], ◌∷◌, ◌++◌, arith}
use Rattle.std.specs.Prelude.{⊤}
use Rattle.std.specs.List.{AllByRecursion, AllPairs}
use Rattle.std.proofs.lemmas.List.Elements.{All-from_recursion, recursion_from_All}

-- R holds of each element and each later one
abbrev pub PairsByRecursion : {X : Type 0} → (X → X → Type 0) → List X → Type 0
PairsByRecursion R [] = ⊤
PairsByRecursion R (x ∷ xs) = AllByRecursion (R x) xs × PairsByRecursion R xs

-- R holds of each element of the first list and each of the second
abbrev pub Across : {X Y : Type 0} → (X → Y → Type 0) → List X → List Y → Type 0
Across R xs ys = AllByRecursion (λ x. AllByRecursion (R x) ys) xs

pub AllPairs-from_recursion : {X : Type 0} (R : X → X → Type 0) (xs : List X) → PairsByRecursion R xs → AllPairs R xs
AllPairs-from_recursion R [] p i j d before within = absurd (omega arith)
AllPairs-from_recursion R (x ∷ xs) p zero zero d before within = absurd (omega arith)
AllPairs-from_recursion R (x ∷ xs) p zero (suc j) d before within = All-from_recursion (R x) xs p.0 j d (omega arith)
AllPairs-from_recursion R (x ∷ xs) p (suc i) zero d before within = absurd (omega arith)
AllPairs-from_recursion R (x ∷ xs) p (suc i) (suc j) d before within = AllPairs-from_recursion R xs p.1 i j d (omega arith) (omega arith)

pub recursion_from_AllPairs : {X : Type 0} (R : X → X → Type 0) (xs : List X) → AllPairs R xs → PairsByRecursion R xs
recursion_from_AllPairs R [] p = tt
recursion_from_AllPairs R (x ∷ xs) p = (
  recursion_from_All (R x) xs (λ k d within. p 0 (suc k) d (omega arith) (omega arith)),
  recursion_from_AllPairs R xs (λ i j d before within. p (suc i) (suc j) d (omega arith) (omega arith)),
)

-- ---- each element

pub all_weaker : {X : Type 0} (P Q : X → Type 0) → ((x : X) → P x → Q x) → (xs : List X) → AllByRecursion P xs → AllByRecursion Q xs
all_weaker P Q f [] p = tt
all_weaker P Q f (x ∷ xs) p = (f x p.0, all_weaker P Q f xs p.1)

pub all_both : {X : Type 0} (P Q R : X → Type 0) → ((x : X) → P x → Q x → R x) → (xs : List X) → AllByRecursion P xs → AllByRecursion Q xs → AllByRecursion R xs
all_both P Q R f [] p q = tt
all_both P Q R f (x ∷ xs) p q = (f x p.0 q.0, all_both P Q R f xs p.1 q.1)

all_of_all : {X : Type 0} (P : X → Type 0) → ((x : X) → P x) → (xs : List X) → AllByRecursion P xs
all_of_all P f [] = tt
all_of_all P f (x ∷ xs) = (f x, all_of_all P f xs)

pub all_append : {X : Type 0} (P : X → Type 0) (xs ys : List X) → AllByRecursion P xs → AllByRecursion P ys → AllByRecursion P (xs ++ ys)
all_append P [] ys p q = q
all_append P (x ∷ xs) ys p q = (p.0, all_append P xs ys p.1 q)

pub all_front : {X : Type 0} (P : X → Type 0) (xs ys : List X) → AllByRecursion P (xs ++ ys) → AllByRecursion P xs
all_front P [] ys p = tt
all_front P (x ∷ xs) ys p = (p.0, all_front P xs ys p.1)

pub all_back : {X : Type 0} (P : X → Type 0) (xs ys : List X) → AllByRecursion P (xs ++ ys) → AllByRecursion P ys
all_back P [] ys p = p
all_back P (x ∷ xs) ys p = all_back P xs ys p.1

-- ---- each two

pub across_swap : {X Y : Type 0} (R : X → Y → Type 0) (xs : List X) (ys : List Y) → Across R xs ys → Across (λ y x. R x y) ys xs
across_swap R [] ys p = all_of_all _ (λ y. tt) ys
across_swap R (x ∷ xs) ys p = all_both (R x) (λ y. AllByRecursion (λ z. R z y) xs) _ (λ y r rest. (r, rest)) ys p.0 (across_swap R xs ys p.1)

pub pairs_weaker : {X : Type 0} (R S : X → X → Type 0) → ((x y : X) → R x y → S x y) → (xs : List X) → PairsByRecursion R xs → PairsByRecursion S xs
pairs_weaker R S f [] p = tt
pairs_weaker R S f (x ∷ xs) p = (all_weaker (R x) (S x) (f x) xs p.0, pairs_weaker R S f xs p.1)

pub pairs_append : {X : Type 0} (R : X → X → Type 0) (xs ys : List X) → PairsByRecursion R xs → PairsByRecursion R ys
    → Across R xs ys → PairsByRecursion R (xs ++ ys)
pairs_append R [] ys p q across = q
pairs_append R (x ∷ xs) ys p q across = (all_append (R x) xs ys p.0 across.0, pairs_append R xs ys p.1 q across.1)

pub pairs_front : {X : Type 0} (R : X → X → Type 0) (xs ys : List X) → PairsByRecursion R (xs ++ ys) → PairsByRecursion R xs
pairs_front R [] ys p = tt
pairs_front R (x ∷ xs) ys p = (all_front (R x) xs ys p.0, pairs_front R xs ys p.1)

pub pairs_across : {X : Type 0} (R : X → X → Type 0) (xs ys : List X) → PairsByRecursion R (xs ++ ys) → Across R xs ys
pairs_across R [] ys p = tt
pairs_across R (x ∷ xs) ys p = (all_back (R x) xs ys p.0, pairs_across R xs ys p.1)
