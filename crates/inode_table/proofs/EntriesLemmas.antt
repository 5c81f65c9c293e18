-- Lists of entries in the order of their keys, and the finite maps of the same entries.
use Rattle.std.proofs.Common.{◌≡◌, ◌⊎◌, suc, ◌&&◌, Bool, true, false, T, cond, List, [], ◌∷◌, ◌++◌, map, Some, refl, sym, ap, ◌∙◌, subst, inl, inr, arith}
use Rattle.std.specs.Cmp.{IsTotalOrder, tied_itself}
use Rattle.std.specs.FinMap.{FinMap, IsAntisymmetric, entries, entries-from_sorted, find, from_sorted, get, get-from_sorted, is_sorted, same_map}
use Rattle.std.specs.FinMap.Entries.{below_all}
use Rattle.std.specs.List.{All, AllByRecursion}
use Rattle.std.specs.List.Sorted.{IsStrictlySortedBy}
use Rattle.std.specs.Map.{keys_of}
use Rattle.std.specs.Ordering.{is_lt}
use Rattle.std.specs.declared.cmp.Ordering.{Ordering}
use Rattle.std.specs.declared.cmp.Ordering.TheVariants.{Less, Equal, Greater}
use Rattle.std.proofs.lemmas.Map.Keys.{sorted_head, sorted_tail}
use Rattle.inode_table.proofs.TreeLemmas.{same_some, some_none}
use Rattle.inode_table.proofs.WorldLemmas.{tie}

-- ---- what is in a list

abbrev pub In : {A : Type 0} → List A → A → Type 0
In [] a = ⊥
In (x ∷ xs) a = (x ≡ a) ⊎ In xs a

pub In-left : {A : Type 0} (xs ys : List A) (a : A) → In xs a → In (xs ++ ys) a
In-left [] ys a h = absurd h
In-left (x ∷ xs) ys a (inl is) = inl is
In-left (x ∷ xs) ys a (inr h) = inr (In-left xs ys a h)

pub In-right : {A : Type 0} (xs ys : List A) (a : A) → In ys a → In (xs ++ ys) a
In-right [] ys a h = h
In-right (x ∷ xs) ys a h = inr (In-right xs ys a h)

pub In-cases : {A : Type 0} (xs ys : List A) (a : A) → In (xs ++ ys) a → In xs a ⊎ In ys a
In-cases [] ys a h = inr h
In-cases (x ∷ xs) ys a (inl is) = inl (inl is)
In-cases (x ∷ xs) ys a (inr h) = elim (In-cases xs ys a h) [ inl l ↦ inl (inr l) | inr r ↦ inr r ]

pub In-map : {A B : Type 0} (f : A → B) (xs : List A) (a : A) → In xs a → In (map f xs) (f a)
In-map f [] a h = absurd h
In-map f (x ∷ xs) a (inl is) = inl (ap f is)
In-map f (x ∷ xs) a (inr h) = inr (In-map f xs a h)

pub In-unmap : {A B : Type 0} (f : A → B) (xs : List A) (b : B) → In (map f xs) b → (a : A) × In xs a × (f a ≡ b)
In-unmap f [] b h = absurd h
In-unmap f (x ∷ xs) b (inl is) = (x, inl refl, is)
In-unmap f (x ∷ xs) b (inr h) = let r = In-unmap f xs b h in (r.0, inr r.1, r.2)

pub In-all : {A : Type 0} (P : A → Type 0) (xs : List A) (a : A) → All P xs → In xs a → P a
In-all P [] a all h = absurd h
In-all P (x ∷ xs) a all (inl is) = subst P is (all 0 x (omega arith))
In-all P (x ∷ xs) a all (inr h) = In-all P xs a (λ k d below. all (suc k) d (omega arith)) h

-- ---- entries in order

both : (a b : Bool) → T a → T b → T (a && b)
both true b p q = q
both false b p q = p

pub holds : (b : Bool) → T b → b ≡ true
holds true p = refl
holds false p = absurd p

first : (a b : Bool) → T (a && b) → T a
first true b p = tt
first false b p = p

second : (a b : Bool) → T (a && b) → T b
second true b p = p
second false b p = absurd p

less : (o : Ordering) → T (is_lt o) → o ≡ Less
less Less p = refl
less Equal p = absurd p
less Greater p = absurd p

module _ {K X : Type 0} (R : K → K → Ordering) where
  all_below : (k : K) (es : List (K × X)) → AllByRecursion (λ y. R k y ≡ Less) (keys_of es) → T (below_all R k es)
  all_below k [] h = tt
  all_below k (e ∷ es) h = subst (λ o. T (is_lt o && below_all R k es)) (sym h.0) (all_below k es h.1)

  pub in_order : (es : List (K × X)) → IsStrictlySortedBy R (keys_of es) → T (is_sorted R es)
  in_order [] h = tt
  in_order (e ∷ es) h = both _ _ (all_below e.0 es (sorted_head R e.0 (keys_of es) h)) (in_order es (sorted_tail R e.0 (keys_of es) h))

  -- each key of an ordered list is below the keys that follow it
  pub sorted-below : (k : K) (es : List (K × X)) (e : K × X) → AllByRecursion (λ y. R k y ≡ Less) (keys_of es) → In es e → R k e.0 ≡ Less
  sorted-below k [] e all h = absurd h
  sorted-below k (d ∷ es) e all (inl is) = ap (λ (f : K × X). R k f.0) (sym is) ∙ all.0
  sorted-below k (d ∷ es) e all (inr h) = sorted-below k es e all.1 h

  below-In : (k : K) (es : List (K × X)) (e : K × X) → T (below_all R k es) → In es e → R k e.0 ≡ Less
  below-In k [] e all h = absurd h
  below-In k (d ∷ es) e all (inl is) = ap (λ (f : K × X). R k f.0) (sym is) ∙ less (R k d.0) (first _ _ all)
  below-In k (d ∷ es) e all (inr h) = below-In k es e (second _ _ all) h

  below_all-push : (k : K) (es : List (K × X)) (e : K × X) → T (below_all R k es) → R k e.0 ≡ Less → T (below_all R k (es ++ e ∷ []))
  below_all-push k [] e all up = subst (λ o. T (is_lt o && true)) (sym up) tt
  below_all-push k (d ∷ es) e all up = both _ _ (first _ _ all) (below_all-push k es e (second _ _ all) up)

  -- one more entry, whose key is above the others
  pub is_sorted-push : (es : List (K × X)) (e : K × X) → T (is_sorted R es) → ((d : K × X) → In es d → R d.0 e.0 ≡ Less) → T (is_sorted R (es ++ e ∷ []))
  is_sorted-push [] e up above = tt
  is_sorted-push (d ∷ es) e up above =
      both _ _ (below_all-push d.0 es e (first _ _ up) (above d (inl refl))) (is_sorted-push es e (second _ _ up) (λ c h. above c (inr h)))

module _ {K X : Type 0} {R : K → K → Ordering} (total : IsTotalOrder R) (exact : IsAntisymmetric R) where
  -- what is found is in the list
  pub In-find : (es : List (K × X)) (q : K) (x : X) → find R q es ≡ Some x → In es (q, x)
  In-find [] q x e = absurd (some_none refl e)
  In-find (d ∷ es) q x e =
      elim (tie total exact q d.0) [
        | inl same ↦
            let value : d.1 ≡ x = same_some d.1 x (sym (ap (λ b. cond b (Some d.1) (find R q es)) same.1) ∙ e) in
            inl (λ i. (sym same.0 i, value i))
        | inr off ↦ inr (In-find es q x (sym (ap (λ b. cond b (Some d.1) (find R q es)) off.1) ∙ e))
      ]

  -- what is in an ordered list is found
  pub find-In : (es : List (K × X)) (q : K) (x : X) → T (is_sorted R es) → In es (q, x) → find R q es ≡ Some x
  find-In [] q x up h = absurd h
  find-In (d ∷ es) q x up (inl is) =
      elim (tie total exact q d.0) [
        | inl same ↦ ap (λ b. cond b (Some d.1) (find R q es)) same.1 ∙ ap (λ (e : K × X). Some e.1) is
        | inr off ↦ absurd (off.0 (sym (ap (λ (e : K × X). e.0) is)))
      ]
  find-In (d ∷ es) q x up (inr h) =
      elim (tie total exact q d.0) [
        | inl same ↦
            absurd (let low : R d.0 q ≡ Less = below-In R d.0 es (q, x) (first _ _ up) h in
            let tied : R d.0 q ≡ Equal = ap (R d.0) same.0 ∙ tied_itself total d.0 in cc)
        | inr off ↦ ap (λ b. cond b (Some d.1) (find R q es)) off.1 ∙ find-In es q x (second _ _ up) h
      ]

  -- an ordered list and a finite map that answer the same have the same entries
  pub entries-of : (es : List (K × X)) (m : FinMap R X) → T (is_sorted R es) → ((q : K) → find R q es ≡ get m q) → es ≡ entries m
  entries-of es m up is =
      sym (entries-from_sorted R es up)
      ∙ ap entries (same_map total exact (from_sorted es) m (λ q. get-from_sorted R es q up ∙ is q))
