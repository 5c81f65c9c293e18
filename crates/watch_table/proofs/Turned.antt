-- Finite maps read entry by entry, and turned round.
use Rattle.std.proofs.Common.{◌≡◌, ◌⊎◌, inl, inr, Bool, true, false, cond, ◌&&◌, IsTrue, List, [], ◌∷◌, map, Option, Some, None, refl, sym, ap, subst, ◌∙◌}
use Rattle.std.specs.Prelude.{IsSome, ℕ, ℤ}
use Rattle.std.specs.Cmp.{IsTotalOrder, tied_itself}
use Rattle.std.specs.FinMap as finmap
use Rattle.std.specs.FinMap.{FinMap, IsAntisymmetric, get-entries, get-from_entries, same_map}
use Rattle.std.specs.FinMap.Entries.{below_all, find, is_sorted}
use Rattle.std.specs.Ordering.{eq_by_cmp, is_eq, is_lt, ordering_reverse}
use Rattle.std.specs.declared.cmp.Ordering.{Ordering}
use Rattle.std.specs.declared.cmp.Ordering.TheVariants.{Less, Equal, Greater}
use Rattle.watch_table.specs.declared.watch.Watch.{Watch}

-- ---- lists

abbrev pub In : {A : Type 0} → List A → A → Type 0
In [] a = ⊥
In (x ∷ xs) a = (x ≡ a) ⊎ In xs a

In-map : {A B : Type 0} (f : A → B) (xs : List A) (a : A) → In xs a → In (map f xs) (f a)
In-map f [] a h = absurd h
In-map f (x ∷ xs) a (inl is) = inl (ap f is)
In-map f (x ∷ xs) a (inr h) = inr (In-map f xs a h)

In-unmap : {A B : Type 0} (f : A → B) (xs : List A) (b : B) → In (map f xs) b → (a : A) × In xs a × (f a ≡ b)
In-unmap f [] b h = absurd h
In-unmap f (x ∷ xs) b (inl is) = (x, inl refl, is)
In-unmap f (x ∷ xs) b (inr h) = let r = In-unmap f xs b h in (r.0, inr r.1, r.2)

pub map-map : {A B C : Type 0} (g : B → C) (f : A → B) (xs : List A) → map g (map f xs) ≡ map (λ x. g (f x)) xs
map-map g f [] = refl
map-map g f (x ∷ xs) = ap (λ ys. g (f x) ∷ ys) (map-map g f xs)

both-first : (a b : Bool) → IsTrue (a && b) → IsTrue a
both-first true b h = refl
both-first false b h = h

both-second : (a b : Bool) → IsTrue (a && b) → IsTrue b
both-second true b h = h
both-second false b h = absurd (cc)

as-less : (r : Ordering) → IsTrue (is_lt r) → r ≡ Less
as-less Less h = refl
as-less Equal h = absurd (cc)
as-less Greater h = absurd (cc)

as-equal : (r : Ordering) → is_eq r ≡ true → r ≡ Equal
as-equal Less h = absurd (cc)
as-equal Equal h = refl
as-equal Greater h = absurd (cc)

-- ---- entries

module _ {K X : Type 0} {R : K → K → Ordering} (o : IsTotalOrder R) (exact : IsAntisymmetric R) where
  -- what is found is an entry
  found-in : (es : List (K × X)) (q : K) (y : X) → find R q es ≡ Some y → In es (q, y)
  found-in [] q y e = absurd (let none : ◌≡◌ {A = Option X} None (Some y) = e in cc)
  found-in (x ∷ es) q y e = by (found-in es q y) (eq_by_cmp R q x.0) refl e
    where
      by : (find R q es ≡ Some y → In es (q, y)) → (b : Bool) → eq_by_cmp R q x.0 ≡ b → cond b (Some x.1) (find R q es) ≡ Some y → (x ≡ (q, y)) ⊎ In es (q, y)
      by later true t is =
          let key : q ≡ x.0 = exact q x.0 (as-equal (R q x.0) t) in
          let value : x.1 ≡ y = (let same : ◌≡◌ {A = Option X} (Some x.1) (Some y) = is in cc) in
          inl (λ i. (sym key i, value i))
      by later false t is = inr (later is)

  -- something is found under the key of an entry
  in-found : (es : List (K × X)) (q : K) (y : X) → In es (q, y) → IsSome (find R q es)
  in-found [] q y h = absurd h
  in-found (x ∷ es) q y (inl is) =
      let here : eq_by_cmp R q x.0 ≡ true = ap (λ (e : K × X). eq_by_cmp R q e.0) is ∙ ap is_eq (tied_itself o q) in
      subst (λ b. IsSome (cond b (Some x.1) (find R q es))) (sym here) refl
  in-found (x ∷ es) q y (inr h) = by (in-found es q y h) (eq_by_cmp R q x.0)
    where
      by : IsSome (find R q es) → (b : Bool) → IsSome (cond b (Some x.1) (find R q es))
      by later true = refl
      by later false = later

  below-in : (x : K) (es : List (K × X)) (q : K) (y : X) → IsTrue (below_all R x es) → In es (q, y) → R x q ≡ Less
  below-in x [] q y below h = absurd h
  below-in x (e ∷ es) q y below (inl is) = ap (λ (p : K × X). R x p.0) (sym is) ∙ as-less (R x e.0) (both-first _ _ below)
  below-in x (e ∷ es) q y below (inr h) = below-in x es q y (both-second (is_lt (R x e.0)) _ below) h

  -- of keys in order each entry is found
  entry-found : (es : List (K × X)) (q : K) (y : X) → IsTrue (is_sorted R es) → In es (q, y) → find R q es ≡ Some y
  entry-found [] q y sorted h = absurd h
  entry-found (x ∷ es) q y sorted (inl is) =
      let here : eq_by_cmp R q x.0 ≡ true = ap (λ (e : K × X). eq_by_cmp R q e.0) is ∙ ap is_eq (tied_itself o q) in
      ap (λ b. cond b (Some x.1) (find R q es)) here ∙ ap (λ (e : K × X). Some e.1) is
  entry-found (x ∷ es) q y sorted (inr h) =
      let less = below-in x.0 es q y (both-first _ _ sorted) h in
      let off : eq_by_cmp R q x.0 ≡ false = ap is_eq (o.antisymm q x.0 ∙ ap ordering_reverse less) in
      ap (λ b. cond b (Some x.1) (find R q es)) off ∙ entry-found es q y (both-second (below_all R x.0 es) _ sorted) h

  -- a map is made of its entries
  pub made-of-entries : (m : FinMap R X) → finmap.from_entries (finmap.entries m) ≡ m
  made-of-entries m = same_map o exact _ m (λ q. get-from_entries o (finmap.entries m) q ∙ sym (get-entries m q))

-- ---- a map turned round: the values have keys of their own

-- values with two parts, of which they are made
pub record Parts (A B V : Type 0) : Type 0 where
  pub parts : V → A × B
  pub made : A × B → V
  pub made_parts : (v : V) → made (parts v) ≡ v
  pub parts_made : (p : A × B) → parts (made p) ≡ p

abbrev pub plain : {A B : Type 0} → Parts A B (A × B)
plain = record { parts = λ p. p; made = λ p. p; made_parts = λ p. refl; parts_made = λ p. refl }

abbrev pub as_watch : Parts ℤ ℕ Watch
as_watch =
    record {
      parts = λ watch. (watch.wd, watch.mask);
      made = λ p. record { wd = p.0; mask = p.1 };
      made_parts = λ watch. refl;
      parts_made = λ p. refl;
    }

same_some : {A : Type 0} {x y : A} → Some x ≡ Some y → x ≡ y
same_some e = cc

module _ {K L X V U : Type 0} {R : K → K → Ordering} {S : L → L → Ordering} (o : IsTotalOrder R) (exact : IsAntisymmetric R)
    (p : IsTotalOrder S) (only : IsAntisymmetric S) (of : Parts L X V) (to : Parts K X U) where
  abbrev swap : K × V → L × U
  swap e = ((of.parts e.1).0, to.made (e.0, (of.parts e.1).1))

  abbrev turned : FinMap R V → FinMap S U
  turned m = finmap.from_entries (map swap (finmap.entries m))

  sorted-entries : (m : FinMap R V) → IsTrue (is_sorted R (finmap.entries m))
  sorted-entries m = by (is_sorted R (finmap.entries m)) (finmap.entries_sorted m)
    where
      by : (b : Bool) → Rattle.std.specs.Prelude.T b → IsTrue b
      by true h = refl
      by false h = absurd h

  -- what is made of the same parts
  made-same : (q r : K × X) → to.made q ≡ to.made r → q ≡ r
  made-same q r e = sym (to.parts_made q) ∙ ap to.parts e ∙ to.parts_made r

  pub turned-back : (m : FinMap R V) (l : L) (k : K) (x : X)
      → finmap.get (turned m) l ≡ Some (to.made (k, x)) → finmap.get m k ≡ Some (of.made (l, x))
  turned-back m l k x e =
      let there = found-in p only (map swap (finmap.entries m)) l (to.made (k, x)) (sym (get-from_entries p (map swap (finmap.entries m)) l) ∙ e) in
      let entry = In-unmap swap (finmap.entries m) (l, to.made (k, x)) there in
      let parts : ◌≡◌ {A = K × X} (entry.0.0, (of.parts entry.0.1).1) (k, x) =
      made-same (entry.0.0, (of.parts entry.0.1).1) (k, x) (λ i. (entry.2 i).1) in
      let value : entry.0.1 ≡ of.made (l, x) =
      sym (of.made_parts entry.0.1) ∙ (λ i. of.made ((entry.2 i).0, (parts i).1)) in
      let is : ◌≡◌ {A = K × V} entry.0 (k, of.made (l, x)) = λ i. ((parts i).0, value i) in
      get-entries m k ∙ entry-found o exact (finmap.entries m) k (of.made (l, x)) (sorted-entries m) (subst (In (finmap.entries m)) is entry.1)

  abbrev pub Apart : FinMap R V → Type 0
  Apart m = (j k : K) (l : L) (x y : X) → finmap.get m j ≡ Some (of.made (l, x)) → finmap.get m k ≡ Some (of.made (l, y)) → j ≡ k

  pub turned-there : (m : FinMap R V) → Apart m → (l : L) (k : K) (x : X)
      → finmap.get m k ≡ Some (of.made (l, x)) → finmap.get (turned m) l ≡ Some (to.made (k, x))
  turned-there m apart l k x e =
      let entry = found-in o exact (finmap.entries m) k (of.made (l, x)) (sym (get-entries m k) ∙ e) in
      let is : ◌≡◌ {A = L × U} (swap (k, of.made (l, x))) (l, to.made (k, x)) =
      λ i. ((of.parts_made (l, x) i).0, to.made (k, (of.parts_made (l, x) i).1)) in
      let there = subst (In (map swap (finmap.entries m))) is (In-map swap (finmap.entries m) (k, of.made (l, x)) entry) in
      let some = in-found p only (map swap (finmap.entries m)) l (to.made (k, x)) there in
      by (finmap.get (turned m) l) refl (subst IsSome (sym (get-from_entries p (map swap (finmap.entries m)) l)) some)
    where
      by : (r : Option U) → finmap.get (turned m) l ≡ r → IsSome r → r ≡ Some (to.made (k, x))
      by None at there = absurd (cc)
      by (Some u) at there =
          let j = (to.parts u).0 in
          let y = (to.parts u).1 in
          let was = turned-back m l j y (at ∙ ap Some (sym (to.made_parts u))) in
          let same : j ≡ k = apart j k l y x was e in
          let made : of.made (l, y) ≡ of.made (l, x) = same_some (sym was ∙ ap (finmap.get m) same ∙ e) in
          let values : ◌≡◌ {A = L × X} (l, y) (l, x) = sym (of.parts_made (l, y)) ∙ ap of.parts made ∙ of.parts_made (l, x) in
          ap Some (sym (to.made_parts u)) ∙ (λ i. Some (to.made (same i, (values i).1)))

module _ {K L X V U : Type 0} {R : K → K → Ordering} {S : L → L → Ordering} (o : IsTotalOrder R) (exact : IsAntisymmetric R)
    (p : IsTotalOrder S) (only : IsAntisymmetric S) (of : Parts L X V) (to : Parts K X U) where
  abbrev back : FinMap R V → FinMap R V
  back m = turned {R = S} {S = R} p only o exact to of (turned {R = R} {S = S} o exact p only of to m)

  -- turned round twice it is the same
  pub turned-twice : (m : FinMap R V) → Apart {S = S} o exact p only of to m → back m ≡ m
  turned-twice m apart = same_map o exact (back m) m (λ k. at k (finmap.get m k) refl)
    where
      other : FinMap S U
      other = turned {R = R} {S = S} o exact p only of to m

      other-apart : Apart {S = R} p only o exact to of other
      other-apart j l k x y e f =
          let one = turned-back {R = R} {S = S} o exact p only of to m j k x e in
          let two = turned-back {R = R} {S = S} o exact p only of to m l k y f in
          let same : of.made (j, x) ≡ of.made (l, y) = same_some (sym one ∙ two) in
          ap (λ (q : L × X). q.0) (sym (of.parts_made (j, x)) ∙ ap of.parts same ∙ of.parts_made (l, y))

      at : (k : K) (r : Option V) → finmap.get m k ≡ r → finmap.get (back m) k ≡ r
      at k (Some v) is =
          let l = (of.parts v).0 in
          let x = (of.parts v).1 in
          let made : Some v ≡ Some (of.made (l, x)) = ap Some (sym (of.made_parts v)) in
          turned-there {R = S} {S = R} p only o exact to of other other-apart k l x
          (turned-there {R = R} {S = S} o exact p only of to m apart l k x (is ∙ made))
          ∙ sym made
      at k None is = by (finmap.get (back m) k) refl
        where
          by : (r : Option V) → finmap.get (back m) k ≡ r → r ≡ None
          by None e = refl
          by (Some v) e =
              let l = (of.parts v).0 in
              let x = (of.parts v).1 in
              let was =
              turned-back {R = R} {S = S} o exact p only of to m l k x
              (turned-back {R = S} {S = R} p only o exact to of other k l x (e ∙ ap Some (sym (of.made_parts v)))) in
              let no : ◌≡◌ {A = Option V} None (Some (of.made (l, x))) = sym is ∙ was in
              absurd (cc)
