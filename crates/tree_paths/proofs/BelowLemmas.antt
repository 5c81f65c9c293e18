-- Whether one path is below another one.
use Rattle.std.proofs.Common.{◌≡◌, ◌<◌, ◌≤◌, ◌+◌, ◌∷◌, ◌++◌, [], List, ℕ, Bool, true, false, not, cond, length, Option}
use Rattle.std.proofs.Common.{Some, None, IsTrue, refl, sym, ap, ◌∙◌, arith}
use Rattle.std.proofs.lemmas.Bool.{lt-ltb, ltb-true}
use Rattle.std.proofs.lemmas.List.{length-append}
use Rattle.std.proofs.lemmas.Map.Lookups.{exact_bytes}
use Rattle.std.specs.Cmp.{tied_itself, Equal-is}
use Rattle.std.specs.Cmp.Lexicographic.{slice_cmp, nat_list_cmp_total}
use Rattle.std.specs.List.{slice_get}
use Rattle.std.specs.Option.{option_and_then}
use Rattle.std.specs.Ordering.{nat_cmp, is_eq}
use Rattle.std.specs.Prelude.{is_some, nat_lt}
use Rattle.std.specs.Str.{bytes_eq}
use Rattle.std.proofs.lemmas.Slice.Eq.{bytes_eq-Decides}
use Rattle.tree_paths.specs.Paths.{IsBelow, is_below, rest_after, same_name}

same_name-true : (m l : List ℕ) → same_name m l ≡ true → l ≡ m
same_name-true m l e = sym (exact_bytes m l ((Equal-is (slice_cmp nat_cmp m l)).0 e))

same_name-refl : (m : List ℕ) → same_name m m ≡ true
same_name-refl m = ap is_eq (tied_itself nat_list_cmp_total m)

rest_after-append : (p s : List (List ℕ)) → rest_after p (p ++ s) ≡ Some s
rest_after-append [] s = refl
rest_after-append (l ∷ p) s = ap (λ b. cond b (rest_after p (p ++ s)) None) (same_name-refl l) ∙ rest_after-append p s

rest_after-some : (p q s : List (List ℕ)) → rest_after p q ≡ Some s → q ≡ p ++ s
rest_after-some [] q s e = cc
rest_after-some (l ∷ p) [] s e = absurd (cc)
rest_after-some (l ∷ p) (m ∷ q) s e =
    elim (same_name l m) as (λ b. same_name l m ≡ b → cond b (rest_after p q) None ≡ Some s → m ∷ q ≡ (l ∷ p) ++ s) [
      | true ↦ λ t f i. same_name-true l m t i ∷ rest_after-some p q s f i
      | false ↦ λ t f. absurd (cc)
    ] refl e

-- a path has a name
abbrev is_some_name : Option (List (List ℕ)) → Bool
is_some_name o = is_some (option_and_then (λ names. slice_get names 0) o)

pub below : (path above : List (List ℕ)) → IsBelow path above → is_below path above ≡ true
unfolding is_below
below path above h = ap (λ p. is_some_name (rest_after above p)) h.2 ∙ ap is_some_name (rest_after-append above (h.0 ∷ h.1))

pub is-below : (path above : List (List ℕ)) → is_below path above ≡ true → IsBelow path above
unfolding is_below
is-below path above e = by (rest_after above path) refl e
  where
    by : (o : Option (List (List ℕ))) → rest_after above path ≡ o → is_some_name o ≡ true → IsBelow path above
    by None is f = absurd (cc)
    by (Some []) is f = absurd (cc)
    by (Some (l ∷ s)) is f = (l, s, rest_after-some above path (l ∷ s) is)

-- a test that decides whether a path is below another one equals `is_below`
pub same-test : (path above : List (List ℕ)) (r : Bool) → (IsTrue r → IsBelow path above) × (IsBelow path above → IsTrue r) → r ≡ is_below path above
same-test path above r both = by r (is_below path above) (λ h. below path above (both.0 h)) (λ h. both.1 (is-below path above h))
  where
    by : (b c : Bool) → (b ≡ true → c ≡ true) → (c ≡ true → b ≡ true) → b ≡ c
    by true c f g = sym (f refl)
    by false true f g = g refl
    by false false f g = refl

-- a path that is not longer than another one is not below it
pub short : (path above : List (List ℕ)) → length path ≤ length above → nat_lt (length above) (length path) ≡ is_below path above
short path above within =
    same-test path above (nat_lt (length above) (length path)) (λ t. absurd (shorter t), λ b. lt-ltb (length above) (length path) (longer b))
  where
    shorter : nat_lt (length above) (length path) ≡ true → ⊥
    shorter t = let h = ltb-true (length above) (length path) t in omega arith

    longer : IsBelow path above → length above < length path
    longer b = let n : length path ≡ length above + length (b.0 ∷ b.1) = ap length b.2 ∙ length-append above (b.0 ∷ b.1) in omega arith

-- ---- one name after the other

pub below-first : (x : List ℕ) (path above : List (List ℕ)) → is_below (x ∷ path) (x ∷ above) ≡ is_below path above
unfolding is_below
below-first x path above = ap (λ b. is_some_name (cond b (rest_after above path) None)) (same_name-refl x)

pub below-end : (x : List ℕ) (above : List (List ℕ)) → is_below [] (x ∷ above) ≡ false
unfolding is_below
below-end x above = refl

pub below-apart : (x y : List ℕ) (path above : List (List ℕ)) → (y ≡ x → ⊥) → is_below (x ∷ path) (y ∷ above) ≡ false
unfolding is_below
below-apart x y path above apart = by (same_name y x) refl
  where
    by : (b : Bool) → same_name y x ≡ b → is_some_name (cond b (rest_after above path) None) ≡ false
    by true e = absurd (apart (sym (same_name-true y x e)))
    by false e = refl

pub below-root : (path : List (List ℕ)) (r : Bool) → (IsTrue r → path ≡ []) × (path ≡ [] → IsTrue r) → not r ≡ is_below path []
unfolding is_below
below-root [] r both = ap not (both.1 refl)
below-root (x ∷ path) true both = absurd (let e = both.0 refl in cc)
below-root (x ∷ path) false both = refl

pub none-below : (path above : List (List ℕ)) → (IsBelow path above → ⊥) → false ≡ is_below path above
none-below path above h = same-test path above false (λ (t : IsTrue false). absurd cc, λ b. absurd (h b))

not-same : (b : Bool) → not b ≡ true → b ≡ true → ⊥
not-same true e f = cc
not-same false e f = cc

is-same : (b : Bool) → not b ≡ false → b ≡ true
is-same true e = refl
is-same false e = absurd cc

pub apart-by : (x y a b : List ℕ) (r : Bool) → a ≡ x → b ≡ y → r ≡ not (bytes_eq a b) → r ≡ true → y ≡ x → ⊥
apart-by x y a b r ax by is on same = not-same (bytes_eq a b) (sym is ∙ on) ((bytes_eq-Decides a b).1 (ax ∙ sym same ∙ sym by))

pub below-step : (path above names others ns os : List (List ℕ)) (x y a b : List ℕ) (r : Bool)
    → is_below path above ≡ is_below names others → names ≡ x ∷ ns → others ≡ y ∷ os
    → a ≡ x → b ≡ y → r ≡ not (bytes_eq a b) → r ≡ false → is_below path above ≡ is_below ns os
below-step path above names others ns os x y a b r so_far n o ax by is off =
    let same : x ≡ y = sym ax ∙ (bytes_eq-Decides a b).0 (is-same (bytes_eq a b) (sym is ∙ off)) ∙ by in
    so_far ∙ (λ i. is_below (n i) (o i)) ∙ ap (λ (l : List ℕ). is_below (l ∷ ns) (y ∷ os)) same ∙ below-first y ns os
