-- Ordered maps as finite maps.
use Rattle.std.proofs.Common.{◌≡◌, ◌≢◌, ◌⊎◌, ℕ, Bool, true, false, cond, T, List, [], ◌∷◌, ◌&&◌, map, length, Some, None, refl, sym, ap, ◌∙◌, subst, inl, inr}
use Rattle.std.specs.BTreeMap as tree
use Rattle.std.specs.BTreeMap.{BTreeMap}
use Rattle.std.specs.FinMap as finmap
use Rattle.std.specs.FinMap.{FinMap, IsAntisymmetric, find, is_sorted, entries, from_entries, from_sorted}
use Rattle.std.specs.FinMap.{get-from_entries, get-from_sorted, get-insert, get-remove, len-entries}
use Rattle.std.specs.FinMap.{entries-from_sorted, same_map, nat_cmp-IsAntisymmetric}
use Rattle.std.specs.FinMap.Entries.{below_all}
use Rattle.std.specs.Map.{lookup, keys_of}
use Rattle.std.specs.List.{AllByRecursion}
use Rattle.std.specs.List.Sorted.{IsStrictlySortedBy}
use Rattle.std.specs.Ordering.{nat_cmp, eq_by_cmp, is_eq, is_lt}
use Rattle.std.specs.declared.cmp.Ordering.{Ordering}
use Rattle.std.specs.declared.cmp.Ordering.TheVariants.{Less, Equal, Greater}
use Rattle.std.specs.Cmp.{IsTotalOrder, nat_cmp_total, eq_by_cmp_equiv, tied_itself}
use Rattle.std.proofs.lemmas.Map.Keys.{sorted_head, sorted_tail}

-- ---- keys that are equal or not

module _ {K : Type 0} {R : K → K → Ordering} (total : IsTotalOrder R) (exact : IsAntisymmetric R) where
  pub tie : (q k : K) → ((q ≡ k) × (eq_by_cmp R q k ≡ true)) ⊎ ((q ≢ k) × (eq_by_cmp R q k ≡ false))
  tie q k =
      elim (R q k) as (λ o. R q k ≡ o → ((q ≡ k) × (is_eq o ≡ true)) ⊎ ((q ≢ k) × (is_eq o ≡ false))) [
        | Less ↦ λ e. inr (λ is. let same : R q k ≡ Equal = ap (R q) (sym is) ∙ tied_itself total q in cc, refl)
        | Equal ↦ λ e. inl (exact q k e, refl)
        | Greater ↦ λ e. inr (λ is. let same : R q k ≡ Equal = ap (R q) (sym is) ∙ tied_itself total q in cc, refl)
      ] refl

both : (a b : Bool) → T a → T b → T (a && b)
both true b p q = q
both false b p q = p

module _ {X : Type 0} where
  -- ---- finite maps of numbers

  pub get-insert_here : (m : FinMap nat_cmp X) (k : ℕ) (v : X) → finmap.get (finmap.insert m k v) k ≡ Some v
  get-insert_here m k v =
      get-insert nat_cmp_total m k v k
      ∙ elim (tie nat_cmp_total nat_cmp-IsAntisymmetric k k) [ inl w ↦ ap (λ b. cond b (Some v) (finmap.get m k)) w.1 | inr w ↦ absurd (w.0 refl) ]

  pub get-insert_other : (m : FinMap nat_cmp X) (k : ℕ) (v : X) (q : ℕ) → q ≢ k → finmap.get (finmap.insert m k v) q ≡ finmap.get m q
  get-insert_other m k v q off =
      get-insert nat_cmp_total m k v q
      ∙ elim (tie nat_cmp_total nat_cmp-IsAntisymmetric q k) [ inl w ↦ absurd (off w.0) | inr w ↦ ap (λ b. cond b (Some v) (finmap.get m q)) w.1 ]

  pub get-remove_here : (m : FinMap nat_cmp X) (k : ℕ) → finmap.get (finmap.remove m k) k ≡ None
  get-remove_here m k =
      get-remove nat_cmp_total m k k
      ∙ elim (tie nat_cmp_total nat_cmp-IsAntisymmetric k k) [ inl w ↦ ap (λ b. cond b None (finmap.get m k)) w.1 | inr w ↦ absurd (w.0 refl) ]

  pub get-remove_other : (m : FinMap nat_cmp X) (k q : ℕ) → q ≢ k → finmap.get (finmap.remove m k) q ≡ finmap.get m q
  get-remove_other m k q off =
      get-remove nat_cmp_total m k q
      ∙ elim (tie nat_cmp_total nat_cmp-IsAntisymmetric q k) [ inl w ↦ absurd (off w.0) | inr w ↦ ap (λ b. cond b None (finmap.get m q)) w.1 ]

  -- ---- the finite map of an ordered map

  find-lookup : (es : List (ℕ × X)) (q : ℕ) → find nat_cmp q es ≡ lookup (λ k. is_eq (nat_cmp q k)) es
  find-lookup [] q = refl
  find-lookup (e ∷ es) q = ap (cond (is_eq (nat_cmp q e.0)) (Some e.1)) (find-lookup es q)

  pub get-from_map : (m : BTreeMap ℕ X) (q : ℕ) → finmap.get (from_entries {R = nat_cmp} m.entries) q ≡ tree.get nat_cmp m q
  get-from_map m q = get-from_entries nat_cmp_total m.entries q ∙ find-lookup m.entries q

  pub from_map-insert : (m n : BTreeMap ℕ X) (k : ℕ) (v : X) → tree.Updates nat_cmp m n k (Some v)
      → from_entries {R = nat_cmp} n.entries ≡ finmap.insert (from_entries m.entries) k v
  from_map-insert m n k v h =
      same_map nat_cmp_total nat_cmp-IsAntisymmetric _ _ (λ q.
      get-from_map n q ∙ h.0 q ∙ ap (λ b. cond b (Some v) (tree.get nat_cmp m q)) ((eq_by_cmp_equiv nat_cmp_total).symm k q)
      ∙ ap (cond (eq_by_cmp nat_cmp q k) (Some v)) (sym (get-from_map m q)) ∙ sym (get-insert nat_cmp_total (from_entries m.entries) k v q))

  pub from_map-remove : (m n : BTreeMap ℕ X) (k : ℕ) → tree.Updates nat_cmp m n k None
      → from_entries {R = nat_cmp} n.entries ≡ finmap.remove (from_entries m.entries) k
  from_map-remove m n k h =
      same_map nat_cmp_total nat_cmp-IsAntisymmetric _ _ (λ q.
      get-from_map n q ∙ h.0 q ∙ ap (λ b. cond b None (tree.get nat_cmp m q)) ((eq_by_cmp_equiv nat_cmp_total).symm k q)
      ∙ ap (cond (eq_by_cmp nat_cmp q k) None) (sym (get-from_map m q)) ∙ sym (get-remove nat_cmp_total (from_entries m.entries) k q))

  all_below : (k : ℕ) (es : List (ℕ × X)) → AllByRecursion (λ y. nat_cmp k y ≡ Less) (keys_of es) → T (below_all nat_cmp k es)
  all_below k [] h = tt
  all_below k (e ∷ es) h = subst (λ o. T (is_lt o && below_all nat_cmp k es)) (sym h.0) (all_below k es h.1)

  in_order : (es : List (ℕ × X)) → IsStrictlySortedBy nat_cmp (keys_of es) → T (is_sorted nat_cmp es)
  in_order [] h = tt
  in_order (e ∷ es) h = both _ _ (all_below e.0 es (sorted_head nat_cmp e.0 (keys_of es) h)) (in_order es (sorted_tail nat_cmp e.0 (keys_of es) h))

  pub entries-from_map : (m : BTreeMap ℕ X) → tree.IsOrdered nat_cmp m → entries (from_entries {R = nat_cmp} m.entries) ≡ m.entries
  entries-from_map m h =
      let same : from_entries {R = nat_cmp} m.entries ≡ from_sorted m.entries =
      same_map nat_cmp_total nat_cmp-IsAntisymmetric _ _
      (λ q.
      get-from_entries nat_cmp_total m.entries q
      ∙ sym (get-from_sorted nat_cmp m.entries q (in_order m.entries h)))
      in
      ap entries same ∙ entries-from_sorted nat_cmp m.entries (in_order m.entries h)

  pub len-from_map : (m : BTreeMap ℕ X) → tree.IsOrdered nat_cmp m → finmap.len (from_entries {R = nat_cmp} m.entries) ≡ tree.btree_map_len m
  len-from_map m h = len-entries _ ∙ ap length (entries-from_map m h)

  pub keys-from_map : (m : BTreeMap ℕ X) → tree.IsOrdered nat_cmp m → finmap.keys (from_entries {R = nat_cmp} m.entries) ≡ tree.keys m
  keys-from_map m h = ap (map (λ e. e.0)) (entries-from_map m h)
