-- What is staged for each instance that watches a file.
use Rattle.std.proofs.Common.{◌≡◌, ℕ, zero, suc, Bool, true, false, cond, ◌||◌, ◌+◌, ◌<◌, ◌≤◌, List, [], ◌∷◌, ◌++◌, length}
use Rattle.std.proofs.Common.{eqb, is_some, Option, Some, None, take, map, refl, sym, ap, ◌∙◌, get_or, append_assoc, arith}
use Rattle.std.specs.Prelude.{pos}
use Rattle.std.specs.FinMap as finmap
use Rattle.std.specs.FinMap.{contains_key-keys}
use Rattle.std.specs.List.{AllByRecursion, filter, list_any}
use Rattle.std.specs.List.Sorted.{IsStrictlySortedBy}
use Rattle.std.specs.Ordering.{nat_cmp, is_eq}
use Rattle.std.specs.Cmp.{unsigned_tied}
use Rattle.std.specs.declared.cmp.Ordering.TheVariants.{Less}
use Rattle.std.proofs.lemmas.List.{append-nil, take_all}
use Rattle.std.proofs.lemmas.List.Folds.{list_any_more}
use Rattle.watch_table.specs.declared.watch.Watch.{Watch}
use Rattle.file_watchers.specs.Watchers.{AreWatchers, watchers_map}
use Rattle.instance_table.proofs.Indexed.{is-same}
use Rattle.instance_table.proofs.WhoWatches.{same-tests}
use Rattle.file_watchers.proofs.Zipped.{watchers-at, watchers-keys}

-- ---- what is for one of several

flip : (a b : ℕ) → eqb b a ≡ false → eqb a b ≡ false
flip a b e =
    Rattle.std.proofs.lemmas.Bool.ne_eqb a b (λ is. Rattle.std.proofs.lemmas.Bool.false≢true (sym e ∙ Rattle.std.proofs.lemmas.Bool.eq-eqb b a (sym is)))

above-at : (x : ℕ) (ys : List ℕ) (k : ℕ) → AllByRecursion (λ y. nat_cmp x y ≡ Less) ys → k < length ys → nat_cmp x (get_or ys k 0) ≡ Less
above-at x [] k all h = absurd (omega arith)
above-at x (y ∷ ys) zero all h = all.0
above-at x (y ∷ ys) (suc k) all h = above-at x ys k all.1 (omega arith)

-- a rising number is none of those before it
pub once : (ids : List ℕ) (k : ℕ) → IsStrictlySortedBy nat_cmp ids → k < length ids → list_any (λ y. eqb (get_or ids k 0) y) (take k ids) ≡ false
unfolding IsStrictlySortedBy
once [] k sorted h = absurd (omega arith)
once (x ∷ ids) zero sorted h = refl
once (x ∷ ids) (suc k) sorted h =
    let id = get_or ids k 0 in
    let apart : eqb id x ≡ false = flip id x (sym (unsigned_tied x id) ∙ ap is_eq (above-at x ids k sorted.0 (omega arith))) in
    ap (λ b. b || list_any (λ y. eqb id y) (take k ids)) apart ∙ once ids k sorted.1 (omega arith)

module _ {X Y : Type 0} (id_of : X → ℕ) (what : X → Y) (label : ℕ → Y → X) (named : (id : ℕ) (y : Y) → id_of (label id y) ≡ id)
    (same : (id : ℕ) (y : Y) → what (label id y) ≡ y) where
  abbrev pub to : ℕ → List X → List Y
  to q xs = map what (filter (λ x. eqb q (id_of x)) xs)

  pub to-append : (q : ℕ) (xs ys : List X) → to q (xs ++ ys) ≡ to q xs ++ to q ys
  to-append q [] ys = refl
  to-append q (x ∷ xs) ys =
      elim (eqb q (id_of x)) as (λ t. map what (cond t (x ∷ filter (λ x. eqb q (id_of x)) (xs ++ ys)) (filter (λ x. eqb q (id_of x)) (xs ++ ys)))
      ≡ map what (cond t (x ∷ filter (λ x. eqb q (id_of x)) xs) (filter (λ x. eqb q (id_of x)) xs)) ++ to q ys) [
        | true ↦ ap (λ zs. what x ∷ zs) (to-append q xs ys)
        | false ↦ to-append q xs ys
      ]

  labelled : (q id : ℕ) (ys : List Y) → to q (map (label id) ys) ≡ cond (eqb q id) ys []
  labelled q id [] = elim (eqb q id) as (λ t. ◌≡◌ {A = List Y} [] (cond t [] [])) [
    | true ↦ refl
    | false ↦ refl
  ]
  labelled q id (y ∷ ys) =
      let rest : List X = filter (λ x. eqb q (id_of x)) (map (label id) ys) in
      ap (λ n. map what (cond (eqb q n) (label id y ∷ rest) rest)) (named id y)
      ∙ elim (eqb q id) as (λ t. map what rest ≡ cond t ys [] → map what (cond t (label id y ∷ rest) rest) ≡ cond t (y ∷ ys) []) [
        | true ↦ λ h k. same id y k ∷ h k
        | false ↦ λ h. h
      ] (labelled q id ys)

  -- those before an element, and those of it
  merged : (q id : ℕ) (ys all : List Y) (b : Bool) → (eqb q id ≡ true → (b ≡ false) × (ys ≡ all))
      → cond b all [] ++ cond (eqb q id) ys [] ≡ cond (b || eqb q id) all []
  merged q id ys all b new =
      elim (eqb q id) as (λ t. eqb q id ≡ t → (cond b all [] ++ cond t ys []) ≡ cond (b || t) all []) [
        | true ↦ λ t. let is = new t in (λ k. cond (is.0 k) all [] ++ is.1 k) ∙ sym (ap (λ x. cond (x || true) all []) is.0)
        | false ↦ λ t. elim b as (λ x. (cond x all [] ++ []) ≡ cond (x || false) all []) [
          | true ↦ append-nil all
          | false ↦ refl
        ]
      ] refl

  -- and behind others
  pub step-behind : (q id : ℕ) (xs : List X) (ys all front : List Y) (b : Bool) → to q xs ≡ front ++ cond b all []
      → (eqb q id ≡ true → (b ≡ false) × (ys ≡ all)) → to q (xs ++ map (label id) ys) ≡ front ++ cond (b || eqb q id) all []
  step-behind q id xs ys all front b was new =
      to-append q xs (map (label id) ys) ∙ (λ k. was k ++ labelled q id ys k) ∙ append_assoc front (cond b all []) (cond (eqb q id) ys [])
      ∙ ap (λ zs. front ++ zs) (merged q id ys all b new)

-- ---- what is staged for each of the watchers of a file

-- whether an instance is among the first watchers
abbrev pub is_among : List ℕ → ℕ → ℕ → Bool
is_among ids k q = list_any (λ y. eqb q y) (take k ids)

module _ {X Y : Type 0} (id_of : X → ℕ) (what : X → Y) (label : ℕ → Y → X) (named : (id : ℕ) (y : Y) → id_of (label id y) ≡ id)
    (same : (id : ℕ) (y : Y) → what (label id y) ≡ y) (ids : List ℕ) (ws : List Watch) (are : AreWatchers ids ws)
    (f : Option Watch → List Y) (front : List Y) (k q : ℕ) where
  -- what an instance gets
  abbrev pub mine : List Y
  mine = f (finmap.get (watchers_map ids ws) q)

  -- what one more of them gets
  pub row-more : (xs new : List X) → k < length ids → to id_of what label named same q xs ≡ front ++ cond (is_among ids k q) mine []
      → new ≡ xs ++ map (label (get_or ids k 0)) (f (Some (get_or ws k (record { wd = pos 0; mask = 0 }))))
      → to id_of what label named same q new ≡ front ++ cond (is_among ids (k + 1) q) mine []
  row-more xs new within so_far is =
      let id = get_or ids k 0 in
      let w : Watch = get_or ws k (record { wd = pos 0; mask = 0 }) in
      let at : finmap.get (watchers_map ids ws) id ≡ Some w = watchers-at ids ws are k id (within, refl) (record { wd = pos 0; mask = 0 }) in
      ap (to id_of what label named same q) is
      ∙ step-behind id_of what label named same q id xs (f (Some w)) mine front (is_among ids k q) so_far
      (λ t. (ap (is_among ids k) (is-same q id t) ∙ once ids k are.rising within, ap f (sym (ap (finmap.get (watchers_map ids ws)) (is-same q id t) ∙ at))))
      ∙ ap (λ b. front ++ cond b mine []) (sym (list_any_more (λ y. eqb q y) ids k 0 within))

  all-done : length ids ≤ k → is_among ids k q ≡ is_some (finmap.get (watchers_map ids ws) q)
  all-done done =
      ap (list_any (λ y. eqb q y)) (take_all k ids done ∙ sym (watchers-keys ids ws are))
      ∙ same-tests q (finmap.keys (watchers_map ids ws)) ∙ sym (contains_key-keys (watchers_map ids ws) q)

  -- an instance that is not among them gets nothing
  pub row-done : (xs : List X) → length ids ≤ k → f None ≡ [] → to id_of what label named same q xs ≡ front ++ cond (is_among ids k q) mine []
      → to id_of what label named same q xs ≡ front ++ mine
  row-done xs done none so_far =
      so_far ∙ ap (λ b. front ++ cond b mine []) (all-done done) ∙ ap (λ ys. front ++ ys) (by (finmap.get (watchers_map ids ws) q))
    where
      by : (o : Option Watch) → cond (is_some o) (f o) [] ≡ f o
      by None = sym none
      by (Some w) = refl
