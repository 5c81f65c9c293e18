-- The names in a directory: the one list in order that has each of them.
use Rattle.std.proofs.Common.{◌≡◌, inl, inr, ◌++◌, ◌∷◌, [], List, Bool, true, false, cond, T, ◌||◌, ◌&&◌, Option, Some, None, map, refl, sym, ap, ◌∙◌, subst}
use Rattle.std.specs.List.{AllByRecursion, list_any, filter_map, cons_option}
use Rattle.std.specs.List.Sorted.{IsStrictlySortedBy}
use Rattle.std.specs.Ordering.{nat_cmp, eq_by_cmp, is_lt}
use Rattle.std.specs.declared.cmp.Ordering.TheVariants.{Less}
use Rattle.std.specs.Cmp.Lexicographic.{slice_cmp, nat_list_cmp_total}
use Rattle.std.specs.FinMap as finmap
use Rattle.std.specs.FinMap.{find, is_sorted, same_map, get-from_entries, get-from_sorted, entries-from_sorted, contains_key-keys}
use Rattle.std.specs.FinMap.Entries.{below_all}
use Rattle.inode_table.specs.Rows.{Label}
use Rattle.tree_paths.specs.Paths.{rest_after}
use Rattle.inode_table.specs.Paths.{path_cmp}
use Rattle.inode_table.specs.World.{World, AreNamesOf}
use Rattle.tree_ops.proofs.Keys.{tie, tested, itself, name_exact, path_total, path_exact}
use Rattle.tree_ops.proofs.Fronts.{rest_after-append, rest_after-some}
use Rattle.tree_ops.specs.After.{names_in, only_name}

abbrev marked : List Label → List (Label × Unit {0})
marked names = map (λ name. (name, tt)) names

abbrev in_order : List Label → List Label
in_order names = finmap.keys (finmap.from_entries {R = slice_cmp nat_cmp} (marked names))

find-marked : (ls : List Label) (q : Label) → find (slice_cmp nat_cmp) q (marked ls) ≡ cond (list_any (eq_by_cmp (slice_cmp nat_cmp) q) ls) (Some tt) None
find-marked [] q = refl
find-marked (l ∷ ls) q =
    elim (eq_by_cmp (slice_cmp nat_cmp) q l) as (λ b. cond b (Some tt) (find (slice_cmp nat_cmp) q (marked ls))
    ≡ cond (b || list_any (eq_by_cmp (slice_cmp nat_cmp) q) ls) (Some tt) None) [
      | true ↦ refl
      | false ↦ find-marked ls q
    ]

both : (a b : Bool) → T a → T b → T (a && b)
both true b x y = y
both false b x y = x

below-marked : (x : Label) (ks : List Label) → AllByRecursion (λ y. slice_cmp nat_cmp x y ≡ Less) ks → T (below_all (slice_cmp nat_cmp) x (marked ks))
below-marked x [] h = tt
below-marked x (k ∷ ks) h =
    both (is_lt (slice_cmp nat_cmp x k)) (below_all (slice_cmp nat_cmp) x (marked ks)) (subst (λ o. T (is_lt o)) (sym h.0) tt) (below-marked x ks h.1)

sorted-marked : (ks : List Label) → IsStrictlySortedBy (slice_cmp nat_cmp) ks → T (is_sorted (slice_cmp nat_cmp) (marked ks))
unfolding IsStrictlySortedBy
sorted-marked [] h = tt
sorted-marked (k ∷ ks) h =
    both (below_all (slice_cmp nat_cmp) k (marked ks)) (is_sorted (slice_cmp nat_cmp) (marked ks)) (below-marked k ks h.0) (sorted-marked ks h.1)

keys-marked : (ks : List Label) → map (λ (e : Label × Unit {0}). e.0) (marked ks) ≡ ks
keys-marked [] = refl
keys-marked (k ∷ ks) = ap (λ l. k ∷ l) (keys-marked ks)

-- the names of a list in order are the list that is in order and has the same ones
in_order-is : (ls ks : List Label) → IsStrictlySortedBy (slice_cmp nat_cmp) ks
    → ((q : Label) → list_any (eq_by_cmp (slice_cmp nat_cmp) q) ls ≡ list_any (eq_by_cmp (slice_cmp nat_cmp) q) ks) → in_order ls ≡ ks
in_order-is ls ks sorted same =
    let order = sorted-marked ks sorted in
    let one = finmap.from_entries {R = slice_cmp nat_cmp} (marked ls) in
    let other = finmap.from_sorted {R = slice_cmp nat_cmp} (marked ks) in
    let alike : one ≡ other = same_map nat_list_cmp_total name_exact one other (λ q.
    get-from_entries nat_list_cmp_total (marked ls) q ∙ find-marked ls q ∙ ap (λ b. cond b (Some tt) None) (same q)
    ∙ sym (find-marked ks q) ∙ sym (get-from_sorted (slice_cmp nat_cmp) (marked ks) q order)) in
    ap finmap.keys alike ∙ ap (map (λ (e : Label × Unit {0}). e.0)) (entries-from_sorted (slice_cmp nat_cmp) (marked ks) order) ∙ keys-marked ks

same-test : (b c : Bool) → (b ≡ true → c ≡ true) → (c ≡ true → b ≡ true) → b ≡ c
same-test true c f g = sym (f refl)
same-test false true f g = g refl
same-test false false f g = refl

-- a path is one of the directory's names
name-of : (p : List Label) (r : List Label) (m : Label) → only_name (rest_after p r) ≡ Some m → r ≡ p ++ m ∷ []
name-of p r m e = by (rest_after p r) refl e
  where
    by : (o : Option (List Label)) → rest_after p r ≡ o → only_name o ≡ Some m → r ≡ p ++ m ∷ []
    by None is f = absurd (cc)
    by (Some []) is f = absurd (cc)
    by (Some (l ∷ [])) is f = let same : l ≡ m = cc in rest_after-some p r (l ∷ []) is ∙ ap (λ x. p ++ x ∷ []) same
    by (Some (l ∷ k ∷ s)) is f = absurd (cc)

name-at : (p : List Label) (q : Label) → only_name (rest_after p (p ++ q ∷ [])) ≡ Some q
name-at p q = ap only_name (rest_after-append p (q ∷ []))

-- a name is among those of the paths in the directory where its path is among the paths
among : (p : List Label) (q : Label) (ps : List (List Label))
    → list_any (eq_by_cmp (slice_cmp nat_cmp) q) (filter_map (λ r. only_name (rest_after p r)) ps) ≡ list_any (eq_by_cmp path_cmp (p ++ q ∷ [])) ps
among p q [] = refl
among p q (r ∷ ps) =
    elim (only_name (rest_after p r)) as (λ o. only_name (rest_after p r) ≡ o
    → list_any (eq_by_cmp (slice_cmp nat_cmp) q) (cons_option o (filter_map (λ r. only_name (rest_after p r)) ps))
    ≡ (eq_by_cmp path_cmp (p ++ q ∷ []) r || list_any (eq_by_cmp path_cmp (p ++ q ∷ [])) ps)) [
      | None ↦ λ e.
          let off : eq_by_cmp path_cmp (p ++ q ∷ []) r ≡ false = elim (tie path_total path_exact (p ++ q ∷ []) r) [
            | inl w ↦ absurd (let clash : None ≡ Some q = sym e ∙ ap (λ x. only_name (rest_after p x)) (sym w.0) ∙ name-at p q in cc)
            | inr w ↦ w.1
          ] in
          among p q ps ∙ ap (λ b. b || list_any (eq_by_cmp path_cmp (p ++ q ∷ [])) ps) (sym off)
      | Some m ↦ λ e.
          let is : r ≡ p ++ m ∷ [] = name-of p r m e in
          let here : eq_by_cmp (slice_cmp nat_cmp) q m ≡ eq_by_cmp path_cmp (p ++ q ∷ []) r = same-test _ _
          (λ t. itself path_total path_exact (p ++ q ∷ []) r (ap (λ x. p ++ x ∷ []) (tested nat_list_cmp_total name_exact q m t) ∙ sym is))
          (λ t.
          let names : Some q ≡ Some m = sym (name-at p q) ∙ ap (λ x. only_name (rest_after p x)) (tested path_total path_exact (p ++ q ∷ []) r t) ∙ e in
          itself nat_list_cmp_total name_exact q m (cc)) in
          (λ i. here i || among p q ps i)
    ] refl

pub names-are : (w : World) (p names : List Label) → AreNamesOf w p names → names_in w p ≡ names
unfolding names_in
names-are w p names h =
    in_order-is (filter_map (λ r. only_name (rest_after p r)) (finmap.keys w.paths)) names h.ordered
    (λ q. among p q (finmap.keys w.paths) ∙ sym (contains_key-keys w.paths (p ++ q ∷ [])) ∙ sym (h.members q))
