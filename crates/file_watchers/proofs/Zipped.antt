-- Numbers of instances and their watches, each number with the watch at its index.
use Rattle.std.proofs.Common.{◌≡◌, ℕ, zero, suc, ◌<◌, ◌++◌, ◌∷◌, [], List, Some, None, length, take, drop, map, get_or, set}
use Rattle.std.proofs.Common.{refl, sym, ap, ◌∙◌, subst, arith}
use Rattle.std.specs.Prelude.{Ok, Err}
use Rattle.std.specs.FinMap as finmap
use Rattle.std.specs.FinMap.{from_entries}
use Rattle.std.specs.List.{zip}
use Rattle.std.specs.List.Sorted.{IsStrictlySortedBy}
use Rattle.std.specs.Ordering.{nat_cmp}
use Rattle.watch_table.specs.declared.watch.Watch.{Watch}
use Rattle.file_watchers.specs.Ids.{IsIndex}
use Rattle.file_watchers.specs.Watchers.{AreWatchers, WatchMap, watchers_map}
use Rattle.file_watchers.proofs.Rising.{entries-rising, get-absent, get-at, map-cut, map-put, map-set, numbers-cut, numbers-put, rises-none}

abbrev Entry : Type 0
Entry = ℕ × Watch

abbrev number : Entry → ℕ
number e = e.0

abbrev watch : Entry → Watch
watch e = e.1

-- ---- one list of pairs

numbers-zip : (ids : List ℕ) (ws : List Watch) → length ws ≡ length ids → map number (zip ids ws) ≡ ids
numbers-zip [] ws same = refl
numbers-zip (x ∷ ids) [] same = absurd (omega arith)
numbers-zip (x ∷ ids) (w ∷ ws) same = ap (λ ks. x ∷ ks) (numbers-zip ids ws (omega arith))

as-pairs : (es : List Entry) → map (λ (e : Entry). (e.0, e.1)) es ≡ es
as-pairs [] = refl
as-pairs (e ∷ es) = ap (λ rest. e ∷ rest) (as-pairs es)

abbrev mapped : List Entry → WatchMap
mapped es = from_entries (map (λ (e : Entry). (number e, watch e)) es)

abbrev paired : List Entry → WatchMap
paired es = from_entries es

mapped-is : (es : List Entry) → mapped es ≡ paired es
mapped-is es = ap paired (as-pairs es)

zip-put : (ids : List ℕ) (ws : List Watch) (i x : ℕ) (w : Watch) → length ws ≡ length ids
    → zip (take i ids ++ x ∷ drop i ids) (take i ws ++ w ∷ drop i ws) ≡ take i (zip ids ws) ++ (x, w) ∷ drop i (zip ids ws)
zip-put [] [] zero x w same = refl
zip-put [] [] (suc i) x w same = refl
zip-put [] (v ∷ ws) i x w same = absurd (omega arith)
zip-put (y ∷ ids) [] i x w same = absurd (omega arith)
zip-put (y ∷ ids) (v ∷ ws) zero x w same = refl
zip-put (y ∷ ids) (v ∷ ws) (suc i) x w same = ap (λ es. (y, v) ∷ es) (zip-put ids ws i x w (omega arith))

zip-cut : (ids : List ℕ) (ws : List Watch) (i : ℕ) → length ws ≡ length ids
    → zip (take i ids ++ drop (suc i) ids) (take i ws ++ drop (suc i) ws) ≡ take i (zip ids ws) ++ drop (suc i) (zip ids ws)
zip-cut [] [] zero same = refl
zip-cut [] [] (suc i) same = refl
zip-cut [] (v ∷ ws) i same = absurd (omega arith)
zip-cut (y ∷ ids) [] i same = absurd (omega arith)
zip-cut (y ∷ ids) (v ∷ ws) zero same = refl
zip-cut (y ∷ ids) (v ∷ ws) (suc i) same = ap (λ es. (y, v) ∷ es) (zip-cut ids ws i (omega arith))

zip-set : (ids : List ℕ) (ws : List Watch) (i x : ℕ) (w : Watch) → length ws ≡ length ids → i < length ids → get_or ids i 0 ≡ x
    → zip ids (set ws i w) ≡ set (zip ids ws) i (x, w)
zip-set [] ws i x w same within is = absurd (omega arith)
zip-set (y ∷ ids) [] i x w same within is = absurd (omega arith)
zip-set (y ∷ ids) (v ∷ ws) zero x w same within is = ap (λ n. (n, w) ∷ zip ids ws) is
zip-set (y ∷ ids) (v ∷ ws) (suc i) x w same within is = ap (λ es. (y, v) ∷ es) (zip-set ids ws i x w (omega arith) (omega arith) is)

watch-zip : (ids : List ℕ) (ws : List Watch) (i : ℕ) (d : Watch) → length ws ≡ length ids → i < length ids
    → watch (get_or (zip ids ws) i (0, d)) ≡ get_or ws i d
watch-zip [] ws i d same within = absurd (omega arith)
watch-zip (y ∷ ids) [] i d same within = absurd (omega arith)
watch-zip (y ∷ ids) (v ∷ ws) zero d same within = refl
watch-zip (y ∷ ids) (v ∷ ws) (suc i) d same within = watch-zip ids ws i d (omega arith) (omega arith)

-- ---- lengths

length-put : {A : Type 0} (xs : List A) (i : ℕ) (x : A) → length (take i xs ++ x ∷ drop i xs) ≡ suc (length xs)
length-put [] zero x = refl
length-put [] (suc i) x = refl
length-put (y ∷ xs) zero x = refl
length-put (y ∷ xs) (suc i) x = ap suc (length-put xs i x)

length-cut : {A : Type 0} (xs : List A) (i : ℕ) → i < length xs → suc (length (take i xs ++ drop (suc i) xs)) ≡ length xs
length-cut [] i h = absurd (omega arith)
length-cut (y ∷ xs) zero h = refl
length-cut (y ∷ xs) (suc i) h = ap suc (length-cut xs i (omega arith))

-- ---- one change

pub none-watch : AreWatchers [] []
none-watch = record { rising = rises-none; same = refl }

module _ (ids : List ℕ) (ws : List Watch) (are : AreWatchers ids ws) where
  numbers : map number (zip ids ws) ≡ ids
  numbers = numbers-zip ids ws are.same

  rises : IsStrictlySortedBy nat_cmp (map number (zip ids ws))
  rises = subst (IsStrictlySortedBy nat_cmp) (sym numbers) are.rising

  is-map : mapped (zip ids ws) ≡ watchers_map ids ws
  is-map = mapped-is (zip ids ws)

  -- the numbers are the keys
  pub watchers-keys : finmap.keys (watchers_map ids ws) ≡ ids
  watchers-keys =
      ap (λ (m : WatchMap). finmap.keys m) (sym is-map) ∙ ap (map number) (entries-rising number watch (zip ids ws) rises ∙ as-pairs (zip ids ws)) ∙ numbers

  -- an instance that has none gets a watch
  module _ (i x : ℕ) (w : Watch) (slot : IsIndex ids x (Err i)) where
    pub watchers-put : watchers_map (take i ids ++ x ∷ drop i ids) (take i ws ++ w ∷ drop i ws) ≡ finmap.insert (watchers_map ids ws) x w
    watchers-put =
        ap paired (zip-put ids ws i x w are.same) ∙ sym (mapped-is (take i (zip ids ws) ++ (x, w) ∷ drop i (zip ids ws)))
        ∙ map-put number watch (zip ids ws) i (x, w) (subst (λ ks. IsIndex ks x (Err i)) (sym numbers) slot)
        ∙ ap (λ (m : WatchMap). finmap.insert m x w) is-map

    pub are-put : AreWatchers (take i ids ++ x ∷ drop i ids) (take i ws ++ w ∷ drop i ws)
    are-put = record {
      rising = numbers-put ids i x are.rising (λ k p q. slot.1 k p) slot.2;
      same = length-put ws i w ∙ ap suc are.same ∙ sym (length-put ids i x);
    }

  watchers-absent : (i x : ℕ) → IsIndex ids x (Err i) → finmap.get (watchers_map ids ws) x ≡ None
  watchers-absent i x slot =
      ap (λ (m : WatchMap). finmap.get m x) (sym is-map)
      ∙ get-absent number watch (zip ids ws) i x (subst (λ ks. IsIndex ks x (Err i)) (sym numbers) slot)

  -- the same of a slice of the numbers, and of the map that contracts see
  pub watchers-absent_in : {slice : List ℕ} {m : WatchMap} → slice ≡ ids → watchers_map ids ws ≡ m → (i x : ℕ) → IsIndex slice x (Err i)
      → finmap.get m x ≡ None
  watchers-absent_in same view i x slot =
      ap (λ (n : WatchMap). finmap.get n x) (sym view) ∙ watchers-absent i x (subst (λ ks. IsIndex ks x (Err i)) same slot)

  module _ (i x : ℕ) (slot : IsIndex ids x (Ok i)) where
    within : i < length (map number (zip ids ws))
    within = subst (λ (ks : List ℕ). i < length ks) (sym numbers) slot.0

    there : get_or (map number (zip ids ws)) i 0 ≡ x
    there = ap (λ (ks : List ℕ). get_or ks i 0) numbers ∙ slot.1

    -- an instance gets another watch
    pub watchers-set : (w : Watch) → watchers_map ids (set ws i w) ≡ finmap.insert (watchers_map ids ws) x w
    watchers-set w =
        ap paired (zip-set ids ws i x w are.same slot.0 slot.1) ∙ sym (mapped-is (set (zip ids ws) i (x, w)))
        ∙ map-set number watch (zip ids ws) i (x, w) rises within there ∙ ap (λ (m : WatchMap). finmap.insert m x w) is-map

    -- an instance loses its watch
    pub watchers-cut : watchers_map (take i ids ++ drop (suc i) ids) (take i ws ++ drop (suc i) ws) ≡ finmap.remove (watchers_map ids ws) x
    watchers-cut =
        ap paired (zip-cut ids ws i are.same) ∙ sym (mapped-is (take i (zip ids ws) ++ drop (suc i) (zip ids ws)))
        ∙ map-cut number watch (zip ids ws) i x rises within there ∙ ap (λ (m : WatchMap). finmap.remove m x) is-map

    pub are-cut : AreWatchers (take i ids ++ drop (suc i) ids) (take i ws ++ drop (suc i) ws)
    are-cut =
        let a = length-cut ws i (omega (arith, are.same, slot.0)) in
        let b = length-cut ids i slot.0 in record { rising = numbers-cut ids i are.rising; same = omega (arith, a, b, are.same) }

    -- the watch of an instance
    pub watchers-at : (d : Watch) → finmap.get (watchers_map ids ws) x ≡ Some (get_or ws i d)
    watchers-at d =
        ap (λ (m : WatchMap). finmap.get m x) (sym is-map) ∙ get-at number watch (zip ids ws) i x (0, d) rises within there
        ∙ ap (λ (w : Watch). Some w) (watch-zip ids ws i d are.same slot.0)
