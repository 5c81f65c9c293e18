-- The rows of watches, by the map from descriptors.
use Rattle.std.proofs.Common.{◌≡◌, ℕ, Bool, true, false, cond, T, List, [], ◌∷◌, ◌&&◌, map, Option, Some, None, refl, sym, ap, ◌∙◌, subst}
use Rattle.std.specs.Prelude.{ℤ, option_map}
use Rattle.std.specs.BTreeMap as tree
use Rattle.std.specs.Cmp.{IsTotalOrder, int_cmp_total, nat_cmp_total}
use Rattle.std.specs.FinMap as finmap
use Rattle.std.specs.FinMap.{FinMap, IsAntisymmetric, entries, entries-from_sorted, from_sorted, get-from_sorted}
use Rattle.std.specs.FinMap.{int_cmp-IsAntisymmetric, nat_cmp-IsAntisymmetric, same_map}
use Rattle.std.specs.FinMap.Entries.{below_all, find, is_sorted}
use Rattle.std.specs.List.{AllByRecursion}
use Rattle.std.specs.List.Sorted.{IsStrictlySortedBy}
use Rattle.std.specs.Map.{keys_of, lookup}
use Rattle.std.specs.Ordering.{int_cmp, is_eq, is_lt}
use Rattle.std.specs.declared.cmp.Ordering.{Ordering}
use Rattle.std.specs.declared.cmp.Ordering.TheVariants.{Less}
use Rattle.std.proofs.lemmas.Map.Keys.{sorted_head, sorted_tail}
use Rattle.watch_table.specs.Index.{IsIndexed, watching_of, bits_in}
use Rattle.watch_table.specs.Rows.{by_wd, watch_rows}
use Rattle.watch_table.specs.declared.watch.Watch.{Watch}
use Rattle.watch_table.specs.Watching.{Watching, watch_of}
use Rattle.watch_table.specs.declared.watches.Watches.TheInside.{Inside}
use Rattle.watch_table.proofs.Turned.{as_watch, map-map, plain, turned-back, turned-there}

abbrev pub row_in : Watching → ℤ × ℕ → ℕ × ℤ × ℕ
row_in w e = (e.1, e.0, bits_in (watch_of w e.1))

both : (a b : Bool) → T a → T b → T (a && b)
both true b p q = q
both false b p q = p

module _ {K X Y : Type 0} (R : K → K → Ordering) (f : K × Y → X) where
  -- the entries with other values
  all_below : (k : K) (es : List (K × Y)) → AllByRecursion (λ y. R k y ≡ Less) (keys_of es) → T (below_all R k (map (λ e. (e.0, f e)) es))
  all_below k [] h = tt
  all_below k (e ∷ es) h = subst (λ o. T (is_lt o && below_all R k (map (λ e. (e.0, f e)) es))) (sym h.0) (all_below k es h.1)

  in_order : (es : List (K × Y)) → IsStrictlySortedBy R (keys_of es) → T (is_sorted R (map (λ e. (e.0, f e)) es))
  in_order [] h = tt
  in_order (e ∷ es) h = both _ _ (all_below e.0 es (sorted_head R e.0 (keys_of es) h)) (in_order es (sorted_tail R e.0 (keys_of es) h))

-- entries in order that are found as in a map are its entries
entries-of : {K X : Type 0} {R : K → K → Ordering} → IsTotalOrder R → IsAntisymmetric R → (es : List (K × X))
    → T (is_sorted R es) → (m : FinMap R X) → ((q : K) → find R q es ≡ finmap.get m q) → es ≡ entries m
entries-of {R = R} o exact es sorted m is =
    sym (entries-from_sorted R es sorted) ∙ ap entries (same_map o exact (from_sorted es) m (λ q. get-from_sorted R es q sorted ∙ is q))

module _ (a : Inside) (whole : IsIndexed a) where
  abbrev w : Watching
  w = watching_of a

  abbrev value : ℤ × ℕ → ℕ × ℕ
  value e = (e.1, bits_in (watch_of w e.1))

  found : (es : List (ℤ × ℕ)) (q : ℤ)
      → find int_cmp q (map (λ e. (e.0, value e)) es)
      ≡ option_map (λ n. (n, bits_in (watch_of w n))) (lookup (tree.is_at (int_cmp q)) es)
  found [] q = refl
  found (e ∷ es) q =
      ap (cond (is_eq (int_cmp q e.0)) (Some (value e))) (found es q) ∙ by (is_eq (int_cmp q e.0))
    where
      by : (b : Bool)
          → cond b (Some (value e)) (option_map (λ n. (n, bits_in (watch_of w n))) (lookup (tree.is_at (int_cmp q)) es))
          ≡ option_map (λ n. (n, bits_in (watch_of w n))) (cond b (Some e.1) (lookup (tree.is_at (int_cmp q)) es))
      by true = refl
      by false = refl

  apart : (j k : ℕ) (wd : ℤ) (x y : ℕ) → finmap.get w.watches j ≡ Some (record { wd = wd; mask = x })
      → finmap.get w.watches k ≡ Some (record { wd = wd; mask = y }) → j ≡ k
  apart j k wd x y p q = whole.sound.apart j k wd (ap (option_map (λ (v : Watch). v.wd)) p) (ap (option_map (λ (v : Watch). v.wd)) q)

  -- a watch whose descriptor is known
  known : (o : Option Watch) (wd : ℤ) → option_map (λ (v : Watch). v.wd) o ≡ Some wd → o ≡ Some (record { wd = wd; mask = bits_in o })
  known None wd e = absurd (cc)
  known (Some v) wd e = let same : v.wd ≡ wd = cc in λ i. Some (record { wd = same i; mask = v.mask })

  got : (q : ℤ) (o : Option ℕ) → tree.get int_cmp a.by_wd q ≡ o → option_map (λ n. (n, bits_in (watch_of w n))) o ≡ finmap.get (by_wd w) q
  got q (Some n) is =
      sym
      (turned-there nat_cmp_total nat_cmp-IsAntisymmetric int_cmp_total int_cmp-IsAntisymmetric as_watch plain w.watches apart q n
      (bits_in (watch_of w n)) (known (watch_of w n) q (whole.watched n q is)))
  got q None is = by (finmap.get (by_wd w) q) refl
    where
      by : (r : Option (ℕ × ℕ)) → finmap.get (by_wd w) q ≡ r → None ≡ r
      by None e = refl
      by (Some (n, x)) e =
          let was = turned-back nat_cmp_total nat_cmp-IsAntisymmetric int_cmp_total int_cmp-IsAntisymmetric as_watch plain w.watches q n x e in
          let there = whole.indexed n q (ap (option_map (λ (v : Watch). v.wd)) was) in
          absurd (let no : ◌≡◌ {A = Option ℕ} None (Some n) = sym is ∙ there in cc)

  pub rows-by_wd : tree.IsOrdered int_cmp a.by_wd → map (row_in w) a.by_wd.entries ≡ watch_rows w
  unfolding watch_rows
  rows-by_wd ordered =
      let es = map (λ e. (e.0, value e)) a.by_wd.entries in
      let same : es ≡ entries (by_wd w) =
      entries-of int_cmp_total int_cmp-IsAntisymmetric es (in_order int_cmp value a.by_wd.entries ordered) (by_wd w)
      (λ q. found a.by_wd.entries q ∙ got q (tree.get int_cmp a.by_wd q) refl) in
      sym (map-map (λ e. (e.1.0, e.0, e.1.1)) (λ e. (e.0, value e)) a.by_wd.entries) ∙ ap (map (λ e. (e.1.0, e.0, e.1.1))) same
