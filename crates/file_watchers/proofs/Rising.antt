-- Rows that rise by a number of each, the numbers alone, and the maps that rows stand for.
use Rattle.std.proofs.Common.{◌≡◌, ℕ, suc, zero, ◌<◌, ◌≤◌, ◌-◌, ◌++◌, ◌∷◌, [], List, Bool, true, false, cond, T}
use Rattle.std.proofs.Common.{◌&&◌, Option, Some, None, map, length, take, drop, get_or, set, refl, sym, ap, ◌∙◌, subst}
use Rattle.std.proofs.Common.{arith, inl, inr}
use Rattle.std.specs.Prelude.{Ok, Err, Result}
use Rattle.std.specs.List.{AllByRecursion}
use Rattle.std.specs.List.Sorted.{IsStrictlySortedBy, IsBinarySearchResult, IsSearchInRange}
use Rattle.std.specs.Ordering.{nat_cmp, eq_by_cmp, is_lt, is_eq, ordering_index}
use Rattle.std.specs.declared.cmp.Ordering.TheVariants.{Less}
use Rattle.std.specs.Cmp.{nat_cmp_total, nat_cmp_is, tied_itself}
use Rattle.std.specs.FinMap as finmap
use Rattle.std.specs.FinMap.{FinMap, find, from_entries, is_sorted, get-from_entries, get-from_sorted}
use Rattle.std.specs.FinMap.{entries-from_sorted, get-insert, get-remove, same_map, nat_cmp-IsAntisymmetric}
use Rattle.std.specs.FinMap.Entries.{below_all}
use Rattle.file_watchers.specs.Ids.{IsIndex}
use Rattle.std.proofs.lemmas.List.{get_or-map}
use Rattle.std.proofs.lemmas.List.Sorted.{searched}
use Rattle.std.proofs.lemmas.Map.Keys.{below_from_sorted}

-- ---- numbers that rise

pub is-same : (a b : ℕ) → eq_by_cmp nat_cmp a b ≡ true → a ≡ b
is-same a b e = nat_cmp-IsAntisymmetric a b ((Rattle.std.specs.Cmp.Equal-is (nat_cmp a b)).0 e)

itself : (a : ℕ) → eq_by_cmp nat_cmp a a ≡ true
itself a = ap is_eq (tied_itself nat_cmp_total a)

less : (x y : ℕ) → x < y → nat_cmp x y ≡ Less
less x y h = sym (nat_cmp_is x y Less h)

apart : (q y : ℕ) → nat_cmp q y ≡ Less → eq_by_cmp nat_cmp q y ≡ false
apart q y h = ap is_eq h

apart_back : (q y : ℕ) → nat_cmp y q ≡ Less → eq_by_cmp nat_cmp q y ≡ false
apart_back q y h = ap is_eq (nat_cmp_total.antisymm q y ∙ ap Rattle.std.specs.Ordering.ordering_reverse h)

pub rises-none : IsStrictlySortedBy nat_cmp []
unfolding IsStrictlySortedBy
rises-none = tt

above-all : (x y : ℕ) (ys : List ℕ) → x < y → AllByRecursion (λ z. nat_cmp y z ≡ Less) ys → AllByRecursion (λ z. nat_cmp x z ≡ Less) ys
above-all x y [] h all = tt
above-all x y (z ∷ ys) h all = (nat_cmp_total.trans x y z (less x y h) all.0, above-all x y ys h all.1)

all-put : (y x : ℕ) (xs : List ℕ) (i : ℕ) → nat_cmp y x ≡ Less → AllByRecursion (λ z. nat_cmp y z ≡ Less) xs
    → AllByRecursion (λ z. nat_cmp y z ≡ Less) (take i xs ++ x ∷ drop i xs)
all-put y x [] zero h all = (h, tt)
all-put y x [] (suc i) h all = (h, tt)
all-put y x (z ∷ xs) zero h all = (h, all)
all-put y x (z ∷ xs) (suc i) h all = (all.0, all-put y x xs i h all.1)

-- a number is put in after those below it and before those above
pub numbers-put : (xs : List ℕ) (i x : ℕ) → IsStrictlySortedBy nat_cmp xs → ((k : ℕ) → k < i → k < length xs → get_or xs k 0 < x)
    → ((k : ℕ) → i ≤ k → k < length xs → x < get_or xs k 0)
    → IsStrictlySortedBy nat_cmp (take i xs ++ x ∷ drop i xs)
unfolding IsStrictlySortedBy
numbers-put [] zero x h below above = (tt, tt)
numbers-put [] (suc i) x h below above = (tt, tt)
numbers-put (y ∷ xs) zero x h below above =
    let first : x < y = above 0 (omega arith) (omega arith) in
    ((less x y first, above-all x y xs first h.0), h)
numbers-put (y ∷ xs) (suc i) x h below above =
    let first : y < x = below 0 (omega arith) (omega arith) in (
      all-put y x xs i (less y x first) h.0,
      numbers-put xs i x h.1 (λ k p q. below (suc k) (omega arith) (omega arith)) (λ k p q. above (suc k) (omega arith) (omega arith)),
    )

all-cut : (P : ℕ → Type 0) (xs : List ℕ) (i : ℕ) → AllByRecursion P xs → AllByRecursion P (take i xs ++ drop (suc i) xs)
all-cut P [] zero all = tt
all-cut P [] (suc i) all = tt
all-cut P (z ∷ xs) zero all = all.1
all-cut P (z ∷ xs) (suc i) all = (all.0, all-cut P xs i all.1)

pub numbers-cut : (xs : List ℕ) (i : ℕ) → IsStrictlySortedBy nat_cmp xs → IsStrictlySortedBy nat_cmp (take i xs ++ drop (suc i) xs)
unfolding IsStrictlySortedBy
numbers-cut [] zero h = tt
numbers-cut [] (suc i) h = tt
numbers-cut (y ∷ xs) zero h = h.1
numbers-cut (y ∷ xs) (suc i) h = (all-cut (λ z. nat_cmp y z ≡ Less) xs i h.0, numbers-cut xs i h.1)

at-slot : (P : ℕ → Type 0) (xs : List ℕ) (i : ℕ) → AllByRecursion P xs → i < length xs → P (get_or xs i 0)
at-slot P [] i all h = absurd (omega arith)
at-slot P (x ∷ xs) zero all h = all.0
at-slot P (x ∷ xs) (suc i) all h = at-slot P xs i all.1 (omega arith)

-- ---- where a number is

pub found : (xs : List ℕ) (x : ℕ) (r : Result ℕ ℕ) → IsStrictlySortedBy nat_cmp xs → IsBinarySearchResult (λ y. nat_cmp y x) xs r → IsIndex xs x r
found xs x r h position = searched xs x r position (λ i j p q. rising i j p q)
  where
    rising : (i j : ℕ) → i ≤ j → j < length xs → get_or xs i 0 ≤ get_or xs j 0
    rising i j p q = elim (Rattle.std.proofs.lemmas.Bool.cases_order i j) [
      | inl same ↦ let e : get_or xs i 0 ≡ get_or xs j 0 = ap (λ k. get_or xs k 0) same in omega (arith, e)
      | inr (inl below) ↦ let e : get_or xs i 0 < get_or xs j 0 = below_from_sorted xs i j 0 h below q in omega (arith, e)
      | inr (inr above) ↦ absurd (omega arith)
    ]

-- a number above the last of rising numbers belongs at their end
pub index-last : (xs : List ℕ) (x : ℕ) → IsStrictlySortedBy nat_cmp xs → (0 < length xs → get_or xs (length xs - 1) 0 < x) → IsIndex xs x (Err (length xs))
index-last xs x h last = ((omega arith), (λ k p. below k p), (λ k p q. absurd (omega arith)))
  where
    below : (k : ℕ) → k < length xs → get_or xs k 0 < x
    below k p = elim (Rattle.std.proofs.lemmas.Bool.cases_order k (length xs - 1)) [
      | inl same ↦ let e : get_or xs k 0 ≡ get_or xs (length xs - 1) 0 = ap (λ j. get_or xs j 0) same in let l = last (omega arith) in omega (arith, e, l)
      | inr (inl under) ↦
          let e : get_or xs k 0 < get_or xs (length xs - 1) 0 = below_from_sorted xs k (length xs - 1) 0 h under (omega arith) in
          let l = last (omega arith) in omega (arith, e, l)
      | inr (inr above) ↦ absurd (omega arith)
    ]

-- ---- rows, each with a number

module _ {R : Type 0} (key : R → ℕ) where
  pub length-keys : (rs : List R) → length (map key rs) ≡ length rs
  length-keys [] = refl
  length-keys (r ∷ rs) = ap suc (length-keys rs)

  -- what a binary search by the number found
  pub found-row : (rs : List R) (x : ℕ) (r : Result ℕ ℕ) → IsStrictlySortedBy nat_cmp (map key rs) → IsSearchInRange r (length rs)
      → IsBinarySearchResult (λ y. nat_cmp (key y) x) rs r → IsIndex (map key rs) x r
  found-row [] x (Ok i) h bound position = absurd (omega arith)
  found-row [] x (Err i) h bound position = (omega arith, (λ k p. absurd (omega arith)), λ k p q. absurd (omega arith))
  found-row (y ∷ rs) x (Ok i) h bound position =
      found (map key (y ∷ rs)) x (Ok i) h (λ d. ap (λ k. nat_cmp k x) (get_or-map key (y ∷ rs) i y d bound) ∙ position y)
  found-row (y ∷ rs) x (Err i) h bound position = found (map key (y ∷ rs)) x (Err i) h (λ up.
      let parted = position (λ a b d le lt.
      let first : get_or (map key (y ∷ rs)) a 0 ≡ key (get_or (y ∷ rs) a d) = get_or-map key (y ∷ rs) a d 0 (omega arith) in
      let second : get_or (map key (y ∷ rs)) b 0 ≡ key (get_or (y ∷ rs) b d) = get_or-map key (y ∷ rs) b d 0 lt in
      subst (λ k. ordering_index (nat_cmp k x) ≤ ordering_index (nat_cmp (key (get_or (y ∷ rs) b d)) x)) first
      (subst (λ k. ordering_index (nat_cmp (get_or (map key (y ∷ rs)) a 0) x) ≤ ordering_index (nat_cmp k x)) second
      (up a b 0 le (omega (arith, length-keys (y ∷ rs)))))) in (
        (λ k d low under. ap (λ n. nat_cmp n x) (get_or-map key (y ∷ rs) k y d (omega arith)) ∙ parted.0 k y low under),
        λ k d low under.
            let within : k < length (y ∷ rs) = omega (arith, length-keys (y ∷ rs)) in
            ap (λ n. nat_cmp n x) (get_or-map key (y ∷ rs) k y d within) ∙ parted.1 k y low within,
      ))

-- ---- maps

module _ {X : Type 0} where
  -- what is put where it is
  pub put-there : (m : FinMap nat_cmp X) (x : ℕ) (v : X) → finmap.get m x ≡ Some v → finmap.insert m x v ≡ m
  put-there m x v h =
      same_map nat_cmp_total nat_cmp-IsAntisymmetric (finmap.insert m x v) m (λ q.
      get-insert nat_cmp_total m x v q
      ∙ elim (eq_by_cmp nat_cmp q x) as (λ t. eq_by_cmp nat_cmp q x ≡ t → cond t (Some v) (finmap.get m q) ≡ finmap.get m q) [
        | true ↦ λ t. sym (ap (finmap.get m) (is-same q x t) ∙ h)
        | false ↦ λ t. refl
      ] refl)

  -- what is taken out where nothing is
  pub cut-absent : (m : FinMap nat_cmp X) (x : ℕ) → finmap.get m x ≡ None → finmap.remove m x ≡ m
  cut-absent m x h =
      same_map nat_cmp_total nat_cmp-IsAntisymmetric (finmap.remove m x) m (λ q.
      get-remove nat_cmp_total m x q
      ∙ elim (eq_by_cmp nat_cmp q x) as (λ t. eq_by_cmp nat_cmp q x ≡ t → cond t None (finmap.get m q) ≡ finmap.get m q) [
        | true ↦ λ t. sym (ap (finmap.get m) (is-same q x t) ∙ h)
        | false ↦ λ t. refl
      ] refl)

  swapped : (a b : Bool) (x y z : Option X) → (a ≡ true → b ≡ false) → cond a x (cond b y z) ≡ cond b y (cond a x z)
  swapped true b x y z h = sym (ap (λ t. cond t y x) (h refl))
  swapped false b x y z h = refl

-- ---- rows, each with a number and a value

module _ {R X : Type 0} (key : R → ℕ) (value : R → X) where
  abbrev pairs : List R → List (ℕ × X)
  pairs rs = map (λ r. (key r, value r)) rs

  abbrev map_of : List R → FinMap nat_cmp X
  map_of rs = from_entries (map (λ r. (key r, value r)) rs)

  abbrev IsRising : List R → Type 0
  IsRising rs = IsStrictlySortedBy nat_cmp (map key rs)

  -- the value of a number, in a map of rows
  get-rows : (rs : List R) (q : ℕ) → finmap.get (map_of rs) q ≡ find nat_cmp q (pairs rs)
  get-rows rs q = get-from_entries nat_cmp_total (pairs rs) q

  both : (a b : Bool) → T a → T b → T (a && b)
  both true b x y = y
  both false b x y = x

  below-rows : (x : ℕ) (rs : List R) → AllByRecursion (λ y. nat_cmp x y ≡ Less) (map key rs) → T (below_all nat_cmp x (pairs rs))
  below-rows x [] h = tt
  below-rows x (r ∷ rs) h = both (is_lt (nat_cmp x (key r))) (below_all nat_cmp x (pairs rs)) (subst (λ o. T (is_lt o)) (sym h.0) tt) (below-rows x rs h.1)

  sorted-rows : (rs : List R) → IsRising rs → T (is_sorted nat_cmp (pairs rs))
  unfolding IsStrictlySortedBy
  sorted-rows [] h = tt
  sorted-rows (r ∷ rs) h = both (below_all nat_cmp (key r) (pairs rs)) (is_sorted nat_cmp (pairs rs)) (below-rows (key r) rs h.0) (sorted-rows rs h.1)

  -- the entries of the map of rows that rise are the rows
  pub entries-rising : (rs : List R) → IsRising rs → finmap.entries (map_of rs) ≡ pairs rs
  entries-rising rs h =
      let order = sorted-rows rs h in
      let other : FinMap nat_cmp X = finmap.from_sorted {R = nat_cmp} (pairs rs) in
      let alike : map_of rs ≡ other = same_map nat_cmp_total nat_cmp-IsAntisymmetric (map_of rs) other
      (λ q. get-rows rs q ∙ sym (get-from_sorted nat_cmp (pairs rs) q order)) in
      ap (λ (m : FinMap nat_cmp X). finmap.entries m) alike ∙ entries-from_sorted nat_cmp (pairs rs) order

  -- ---- one row more

  keys-put : (rs : List R) (i : ℕ) (r : R) → map key (take i rs ++ r ∷ drop i rs) ≡ take i (map key rs) ++ key r ∷ drop i (map key rs)
  keys-put [] zero r = refl
  keys-put [] (suc i) r = refl
  keys-put (x ∷ rs) zero r = refl
  keys-put (x ∷ rs) (suc i) r = ap (λ ks. key x ∷ ks) (keys-put rs i r)

  pub rises-put : (rs : List R) (i : ℕ) (r : R) → IsRising rs → IsIndex (map key rs) (key r) (Err i) → IsRising (take i rs ++ r ∷ drop i rs)
  rises-put rs i r h slot = subst (IsStrictlySortedBy nat_cmp) (sym (keys-put rs i r)) (numbers-put (map key rs) i (key r) h (λ k p q. slot.1 k p) slot.2)

  find-put : (rs : List R) (i : ℕ) (r : R) (q : ℕ) → i ≤ length rs → ((k : ℕ) → k < i → get_or (map key rs) k 0 < key r)
      → find nat_cmp q (pairs (take i rs ++ r ∷ drop i rs)) ≡ cond (eq_by_cmp nat_cmp q (key r)) (Some (value r)) (find nat_cmp q (pairs rs))
  find-put [] zero r q within below = refl
  find-put [] (suc i) r q within below = refl
  find-put (x ∷ rs) zero r q within below = refl
  find-put (x ∷ rs) (suc i) r q within below =
      let first : key x < key r = below 0 (omega arith) in
      ap (cond (eq_by_cmp nat_cmp q (key x)) (Some (value x))) (find-put rs i r q (omega arith) (λ k p. below (suc k) (omega arith)))
      ∙ swapped (eq_by_cmp nat_cmp q (key x)) (eq_by_cmp nat_cmp q (key r)) (Some (value x)) (Some (value r)) (find nat_cmp q (pairs rs))
      (λ t. ap (λ y. eq_by_cmp nat_cmp y (key r)) (is-same q (key x) t) ∙ apart (key x) (key r) (less (key x) (key r) first))

  pub map-put : (rs : List R) (i : ℕ) (r : R) → IsIndex (map key rs) (key r) (Err i)
      → map_of (take i rs ++ r ∷ drop i rs) ≡ finmap.insert (map_of rs) (key r) (value r)
  map-put rs i r slot =
      same_map nat_cmp_total nat_cmp-IsAntisymmetric (map_of (take i rs ++ r ∷ drop i rs)) (finmap.insert (map_of rs) (key r) (value r)) (λ q.
      get-rows (take i rs ++ r ∷ drop i rs) q ∙ find-put rs i r q (omega (arith, length-keys key rs, slot.0)) slot.1
      ∙ sym (get-insert nat_cmp_total (map_of rs) (key r) (value r) q ∙ ap (cond (eq_by_cmp nat_cmp q (key r)) (Some (value r))) (get-rows rs q)))

  -- ---- one row less

  keys-cut : (rs : List R) (i : ℕ) → map key (take i rs ++ drop (suc i) rs) ≡ take i (map key rs) ++ drop (suc i) (map key rs)
  keys-cut [] zero = refl
  keys-cut [] (suc i) = refl
  keys-cut (x ∷ rs) zero = refl
  keys-cut (x ∷ rs) (suc i) = ap (λ ks. key x ∷ ks) (keys-cut rs i)

  pub rises-cut : (rs : List R) (i : ℕ) → IsRising rs → IsRising (take i rs ++ drop (suc i) rs)
  rises-cut rs i h = subst (IsStrictlySortedBy nat_cmp) (sym (keys-cut rs i)) (numbers-cut (map key rs) i h)

  -- a number below all others is none of them
  find-below : (q : ℕ) (rs : List R) → AllByRecursion (λ z. nat_cmp q z ≡ Less) (map key rs) → find nat_cmp q (pairs rs) ≡ None
  find-below q [] all = refl
  find-below q (r ∷ rs) all = ap (λ b. cond b (Some (value r)) (find nat_cmp q (pairs rs))) (apart q (key r) all.0) ∙ find-below q rs all.1

  -- a row is none of those behind it
  behind : (x : R) (rs : List R) (i q : ℕ) → AllByRecursion (λ z. nat_cmp (key x) z ≡ Less) (map key rs) → i < length (map key rs)
      → eq_by_cmp nat_cmp q (key x) ≡ true → eq_by_cmp nat_cmp q (get_or (map key rs) i 0) ≡ false
  behind x rs i q all h t =
      let here : nat_cmp (key x) (get_or (map key rs) i 0) ≡ Less = at-slot (λ z. nat_cmp (key x) z ≡ Less) (map key rs) i all h in
      ap (λ y. eq_by_cmp nat_cmp y (get_or (map key rs) i 0)) (is-same q (key x) t) ∙ apart (key x) (get_or (map key rs) i 0) here

  find-cut : (rs : List R) (i q : ℕ) → IsRising rs → i < length (map key rs)
      → find nat_cmp q (pairs (take i rs ++ drop (suc i) rs)) ≡ cond (eq_by_cmp nat_cmp q (get_or (map key rs) i 0)) None (find nat_cmp q (pairs rs))
  unfolding IsStrictlySortedBy
  find-cut [] i q h p = absurd (omega arith)
  find-cut (x ∷ rs) zero q h p =
      elim (eq_by_cmp nat_cmp q (key x)) as (λ b. eq_by_cmp nat_cmp q (key x) ≡ b
      → find nat_cmp q (pairs rs) ≡ cond b None (cond b (Some (value x)) (find nat_cmp q (pairs rs)))) [
        | true ↦ λ e. ap (λ y. find nat_cmp y (pairs rs)) (is-same q (key x) e) ∙ find-below (key x) rs h.0
        | false ↦ λ e. refl
      ] refl
  find-cut (x ∷ rs) (suc i) q h p =
      ap (cond (eq_by_cmp nat_cmp q (key x)) (Some (value x))) (find-cut rs i q h.1 (omega arith))
      ∙ swapped (eq_by_cmp nat_cmp q (key x)) (eq_by_cmp nat_cmp q (get_or (map key rs) i 0)) (Some (value x)) None
      (find nat_cmp q (pairs rs)) (behind x rs i q h.0 (omega arith))

  pub map-cut : (rs : List R) (i x : ℕ) → IsRising rs → i < length (map key rs) → get_or (map key rs) i 0 ≡ x
      → map_of (take i rs ++ drop (suc i) rs) ≡ finmap.remove (map_of rs) x
  map-cut rs i x h p e =
      same_map nat_cmp_total nat_cmp-IsAntisymmetric (map_of (take i rs ++ drop (suc i) rs)) (finmap.remove (map_of rs) x) (λ q.
      get-rows (take i rs ++ drop (suc i) rs) q ∙ find-cut rs i q h p ∙ ap (λ y. cond (eq_by_cmp nat_cmp q y) None (find nat_cmp q (pairs rs))) e
      ∙ sym (get-remove nat_cmp_total (map_of rs) x q ∙ ap (cond (eq_by_cmp nat_cmp q x) None) (get-rows rs q)))

  -- ---- another row of the same number

  find-set : (rs : List R) (i : ℕ) (r : R) (q : ℕ) → IsRising rs → i < length (map key rs) → get_or (map key rs) i 0 ≡ key r
      → find nat_cmp q (pairs (set rs i r)) ≡ cond (eq_by_cmp nat_cmp q (key r)) (Some (value r)) (find nat_cmp q (pairs rs))
  unfolding IsStrictlySortedBy
  find-set [] i r q h p e = absurd (omega arith)
  find-set (x ∷ rs) zero r q h p e =
      hidden (eq_by_cmp nat_cmp q (key r)) (eq_by_cmp nat_cmp q (key x)) (Some (value r)) (Some (value x))
      (find nat_cmp q (pairs rs)) (ap (eq_by_cmp nat_cmp q) (sym e))
    where
      hidden : (a b : Bool) (x y z : Option X) → a ≡ b → cond a x z ≡ cond a x (cond b y z)
      hidden true b x y z e = refl
      hidden false b x y z e = ap (λ t. cond t y z) e
  find-set (x ∷ rs) (suc i) r q h p e =
      ap (cond (eq_by_cmp nat_cmp q (key x)) (Some (value x))) (find-set rs i r q h.1 (omega arith) e)
      ∙ swapped (eq_by_cmp nat_cmp q (key x)) (eq_by_cmp nat_cmp q (key r)) (Some (value x)) (Some (value r)) (find nat_cmp q (pairs rs))
      (λ t. ap (eq_by_cmp nat_cmp q) (sym e) ∙ behind x rs i q h.0 (omega arith) t)

  pub map-set : (rs : List R) (i : ℕ) (r : R) → IsRising rs → i < length (map key rs) → get_or (map key rs) i 0 ≡ key r
      → map_of (set rs i r) ≡ finmap.insert (map_of rs) (key r) (value r)
  map-set rs i r h p e =
      same_map nat_cmp_total nat_cmp-IsAntisymmetric (map_of (set rs i r)) (finmap.insert (map_of rs) (key r) (value r)) (λ q.
      get-rows (set rs i r) q ∙ find-set rs i r q h p e
      ∙ sym (get-insert nat_cmp_total (map_of rs) (key r) (value r) q ∙ ap (cond (eq_by_cmp nat_cmp q (key r)) (Some (value r))) (get-rows rs q)))

  pub rises-set : (rs : List R) (i : ℕ) (r : R) → IsRising rs → get_or (map key rs) i 0 ≡ key r → IsRising (set rs i r)
  rises-set rs i r h e = subst (IsStrictlySortedBy nat_cmp) (sym (same-keys rs i r e)) h
    where
      same-keys : (rs : List R) (i : ℕ) (r : R) → get_or (map key rs) i 0 ≡ key r → map key (set rs i r) ≡ map key rs
      same-keys [] zero r e = refl
      same-keys [] (suc i) r e = refl
      same-keys (x ∷ rs) zero r e = ap (λ k. k ∷ map key rs) (sym e)
      same-keys (x ∷ rs) (suc i) r e = ap (λ ks. key x ∷ ks) (same-keys rs i r e)

  -- ---- what a map has at a number

  find-at : (rs : List R) (i : ℕ) (d : R) → IsRising rs → i < length (map key rs)
      → find nat_cmp (get_or (map key rs) i 0) (pairs rs) ≡ Some (value (get_or rs i d))
  unfolding IsStrictlySortedBy
  find-at [] i d h p = absurd (omega arith)
  find-at (x ∷ rs) zero d h p = ap (λ b. cond b (Some (value x)) (find nat_cmp (key x) (pairs rs))) (itself (key x))
  find-at (x ∷ rs) (suc i) d h p =
      let id = get_or (map key rs) i 0 in
      let here : nat_cmp (key x) id ≡ Less = at-slot (λ z. nat_cmp (key x) z ≡ Less) (map key rs) i h.0 (omega arith) in
      ap (λ b. cond b (Some (value x)) (find nat_cmp id (pairs rs))) (apart_back id (key x) here) ∙ find-at rs i d h.1 (omega arith)

  pub get-at : (rs : List R) (i x : ℕ) (d : R) → IsRising rs → i < length (map key rs) → get_or (map key rs) i 0 ≡ x
      → finmap.get (map_of rs) x ≡ Some (value (get_or rs i d))
  get-at rs i x d h p e = get-rows rs x ∙ ap (λ y. find nat_cmp y (pairs rs)) (sym e) ∙ find-at rs i d h p

  find-absent : (rs : List R) (i x : ℕ) → ((k : ℕ) → k < i → get_or (map key rs) k 0 < x)
      → ((k : ℕ) → i ≤ k → k < length (map key rs) → x < get_or (map key rs) k 0) → find nat_cmp x (pairs rs) ≡ None
  find-absent [] i x below above = refl
  find-absent (r ∷ rs) zero x below above =
      let first : x < key r = above 0 (omega arith) (omega arith) in
      ap (λ b. cond b (Some (value r)) (find nat_cmp x (pairs rs))) (apart x (key r) (less x (key r) first))
      ∙ find-absent rs zero x (λ k p. absurd (omega arith)) (λ k p q. above (suc k) (omega arith) (omega arith))
  find-absent (r ∷ rs) (suc i) x below above =
      let first : key r < x = below 0 (omega arith) in
      ap (λ b. cond b (Some (value r)) (find nat_cmp x (pairs rs))) (apart_back x (key r) (less (key r) x first))
      ∙ find-absent rs i x (λ k p. below (suc k) (omega arith)) (λ k p q. above (suc k) (omega arith) (omega arith))

  pub get-absent : (rs : List R) (i x : ℕ) → IsIndex (map key rs) x (Err i) → finmap.get (map_of rs) x ≡ None
  get-absent rs i x slot = get-rows rs x ∙ find-absent rs i x slot.1 slot.2
