-- The walk over all paths of a table finds each in order, and no other.
use Rattle.std.proofs.Common.{◌≡◌, ◌⊎◌, ℕ, ◌-◌, true, false, T, cond, take, List, [], ◌∷◌, ◌++◌, length, reverse}
use Rattle.std.proofs.Common.{Option, Some, None, IsSome, refl, sym, ap, ◌∙◌, subst, inl, inr, arith, append_assoc}
use Rattle.std.proofs.Common.{append-nil}
use Rattle.std.specs.BTreeMap as tree
use Rattle.std.specs.BTreeMap.{BTreeMap}
use Rattle.std.specs.Cmp.{tied_itself}
use Rattle.std.specs.Cmp.Lexicographic.{slice_cmp, nat_list_cmp_total}
use Rattle.std.specs.FinMap as finmap
use Rattle.std.specs.FinMap.{FinMap, entries, find, is_sorted}
use Rattle.std.specs.List.{All}
use Rattle.std.specs.List.Sorted.{IsStrictlySortedBy}
use Rattle.std.specs.Map.{keys_of, lookup}
use Rattle.std.specs.Option.{option_and_then, option_map}
use Rattle.std.specs.Ordering.{nat_cmp, ordering_then}
use Rattle.std.specs.declared.cmp.Ordering.TheVariants.{Less}
use Rattle.std.proofs.lemmas.List.{map-append, reverse-append, reverse-reverse}
use Rattle.std.proofs.lemmas.Map.Keys.{sorted_head, sorted_tail}
use Rattle.inode_table.specs.Listing.{ArePaths, Visits, longer}
use Rattle.inode_table.specs.Flat.{names_in, number_under}
use Rattle.inode_table.specs.Paths.{path_cmp}
use Rattle.inode_table.specs.Rows.{Body, File, Names, Label, Row, Rows, What, child, key_in, row_under, same_label, shown, what}
use Rattle.inode_table.specs.Kept.{IsTable, row_of, rows_of}
use Rattle.inode_table.specs.Walk.{walk}
use Rattle.inode_table.specs.declared.node.Node.{Node}
use Rattle.slab.specs.Slab.{Slab, get}
use Rattle.inode_table.proofs.RowsLemmas.{row-rows_of}
use Rattle.inode_table.proofs.ChangeLemmas.{same_label-true}
use Rattle.inode_table.proofs.EntriesLemmas.{In, In-all, In-cases, In-find, In-left, In-map, In-right, In-unmap}
use Rattle.inode_table.proofs.EntriesLemmas.{entries-of, find-In, holds, is_sorted-push, sorted-below}
use Rattle.inode_table.proofs.TreeLemmas.{same_some, some_none}
use Rattle.inode_table.proofs.WalkLemmas.{walk-append}
use Rattle.inode_table.proofs.WorldLemmas.{path_exact, path_total}

-- ---- the names in a directory

In-lookup : (l : Label) (es : List (Label × ℕ)) (i : ℕ) → lookup (same_label l) es ≡ Some i → In es (l, i)
In-lookup l [] i e = absurd (some_none refl e)
In-lookup l (x ∷ es) i e =
    elim (same_label l x.0) as (λ b. same_label l x.0 ≡ b → cond b (Some x.1) (lookup (same_label l) es) ≡ Some i → In (x ∷ es) (l, i)) [
      | true ↦ λ same is. inl (λ k. (same_label-true l x.0 same k, same_some x.1 i is k))
      | false ↦ λ _ is. inr (In-lookup l es i is)
    ] refl e

In-names : (b : Body) (l : Label) (i : ℕ) → key_in b l ≡ Some i → In (names_in b) (l, i)
In-names (File bytes reserved) l i e = absurd (some_none refl e)
In-names (Names es) l i e = In-lookup l es i e

-- ---- the order of paths

-- the path and all its descendants come before the other
abbrev pub Clears : List Label → List Label → Type 0
Clears p q = (s : List Label) → path_cmp (p ++ s) q ≡ Less

cmp-under : (p s t : List Label) → path_cmp (p ++ s) (p ++ t) ≡ path_cmp s t
cmp-under [] s t = refl
cmp-under (l ∷ p) s t = ap (λ o. ordering_then o (path_cmp (p ++ s) (p ++ t))) (tied_itself nat_list_cmp_total l) ∙ cmp-under p s t

below-path : (p : List Label) (l : Label) → path_cmp p (p ++ l ∷ []) ≡ Less
below-path p l = ap (λ q. path_cmp q (p ++ l ∷ [])) (sym (append-nil p)) ∙ cmp-under p [] (l ∷ [])

clears-itself : (p q : List Label) → Clears p q → path_cmp p q ≡ Less
clears-itself p q clear = ap (λ r. path_cmp r q) (sym (append-nil p)) ∙ clear []

clears-below : (p : List Label) (l : Label) (q : List Label) → Clears p q → Clears (p ++ l ∷ []) q
clears-below p l q clear s = ap (λ r. path_cmp r q) (append_assoc p (l ∷ []) s) ∙ clear (l ∷ s)

clears-next : (p : List Label) (l m : Label) → slice_cmp nat_cmp l m ≡ Less → Clears (p ++ l ∷ []) (p ++ m ∷ [])
clears-next p l m up s =
    ap (λ r. path_cmp r (p ++ m ∷ [])) (append_assoc p (l ∷ []) s) ∙ cmp-under p (l ∷ s) (m ∷ []) ∙ ap (λ o. ordering_then o (path_cmp s [])) up

-- ---- the walk

abbrev pub Entries : Type 0
Entries = List (List Label × ℕ)

-- each path and all its descendants come before the next ones
abbrev pub AreApart : Entries → Type 0
AreApart [] = Unit {0}
AreApart (e ∷ es) = ((f : List Label × ℕ) → In es f → Clears e.0 f.0) × AreApart es

apart-append : (xs ys : Entries) → AreApart xs → AreApart ys → ((e f : List Label × ℕ) → In xs e → In ys f → Clears e.0 f.0) → AreApart (xs ++ ys)
apart-append [] ys a b clear = b
apart-append (x ∷ xs) ys a b clear = (λ f h. by f (In-cases xs ys f h), apart-append xs ys a.1 b (λ e f h. clear e f (inr h)))
  where
    by : (f : List Label × ℕ) → In xs f ⊎ In ys f → Clears x.0 f.0
    by f (inl h) = a.0 f h
    by f (inr h) = clear x f (inl refl) h

apart-longer : (path : List Label) (names : List (Label × ℕ)) → IsStrictlySortedBy (slice_cmp nat_cmp) (keys_of names) → AreApart (longer path names)
apart-longer path [] up = tt
apart-longer path (n ∷ names) up = (
  λ f h.
      let from = In-unmap (λ (e : Label × ℕ). (path ++ e.0 ∷ [], e.1)) names f h in
      subst (λ (e : List Label × ℕ). Clears (path ++ n.0 ∷ []) e.0) from.2
      (clears-next path n.0 from.0.0 (sorted-below (slice_cmp nat_cmp) n.0 names from.0 (sorted_head (slice_cmp nat_cmp) n.0 (keys_of names) up) from.1)),
  apart-longer path names (sorted_tail (slice_cmp nat_cmp) n.0 (keys_of names) up),
)

-- the path or a prefix of it is in the list
abbrev pub IsPending : Entries → List Label → Type 0
IsPending pending p = (e : List Label × ℕ) × In pending e × (s : List Label) × (p ≡ e.0 ++ s)

-- what is found is in order and comes before what is pending, and each path is found or below a pending one
pub record IsWalked (rs : Rows) (found pending : Entries) : Type 0 where
  pub ordered : T (is_sorted path_cmp found)
  pub before : (e f : List Label × ℕ) → In found e → In pending f → path_cmp e.0 f.0 ≡ Less
  pub apart : AreApart pending
  pub numbers : (p : List Label) (n : ℕ) → In found (p, n) → number_under rs p ≡ Some n
  pub leads : (p : List Label) (k : ℕ) → In pending (p, k) → walk (child rs) 0 p ≡ Some k
  pub live : (p : List Label) (k : ℕ) → In pending (p, k) → IsSome (row_under rs k)
  pub met : (p : List Label) (k : ℕ) (r : Row) → walk (child rs) 0 p ≡ Some k → row_under rs k ≡ Some r → In found (p, r.number) ⊎ IsPending pending p

pub walk-start : (rs : Rows) (found pending : Entries) → IsTable rs → found ≡ [] → pending ≡ ([], 0) ∷ [] → IsWalked rs found (reverse pending)
walk-start rs found pending table none one =
    subst (λ es. IsWalked rs es (reverse pending)) (sym none) (subst (λ es. IsWalked rs [] (reverse es)) (sym one) start)
  where
    start : IsWalked rs [] (([], 0) ∷ [])
    start = record {
      ordered = tt;
      before = λ e f h. absurd h;
      apart = (λ f h. absurd h, tt);
      numbers = λ p n h. absurd h;
      leads = leads;
      live = live;
      met = λ p k r to is. inr (([], 0), inl refl, p, refl);
    }
      where
        leads : (p : List Label) (k : ℕ) → In {A = List Label × ℕ} (([], 0) ∷ []) (p, k) → walk (child rs) 0 p ≡ Some k
        leads p k (inl is) = subst (λ (e : List Label × ℕ). walk (child rs) 0 e.0 ≡ Some e.1) is refl
        leads p k (inr h) = absurd h

        live : (p : List Label) (k : ℕ) → In {A = List Label × ℕ} (([], 0) ∷ []) (p, k) → IsSome (row_under rs k)
        live p k (inl is) = subst (λ (e : List Label × ℕ). IsSome (row_under rs e.1)) is (table.tree.directories 0 table.tree.root)
        live p k (inr h) = absurd h

walk-more : (rs : Rows) (p : List Label) (l : Label) (i : ℕ) → walk (child rs) 0 p ≡ Some i
    → walk (child rs) 0 (p ++ l ∷ []) ≡ option_and_then (λ j. Some j) (child rs i l)
walk-more rs p l i to = walk-append (child rs) 0 p (l ∷ []) ∙ ap (option_and_then (λ j. walk (child rs) j (l ∷ []))) to

module _ (rs : Rows) (table : IsTable rs) (found rest : Entries) (path : List Label) (key : ℕ) (r : Row) where
  pub below : Entries
  below = longer path (names_in r.body)

  module _ (walked : IsWalked rs found ((path, key) ∷ rest)) (here : row_under rs key ≡ Some r)
      (ordered : IsStrictlySortedBy (slice_cmp nat_cmp) (keys_of (names_in r.body))) (names : All (λ e. key_in r.body e.0 ≡ Some e.1) (names_in r.body)) where
    to_path : walk (child rs) 0 path ≡ Some key
    to_path = walked.leads path key (inl refl)

    to_child : (l : Label) → child rs key l ≡ key_in r.body l
    to_child l = ap (option_and_then (λ (q : Row). key_in q.body l)) here

    -- a path one name longer
    from_below : (f : List Label × ℕ) → In below f → (l : Label) × (k : ℕ) × (child rs key l ≡ Some k) × ((path ++ l ∷ [], k) ≡ f)
    unfolding below
    from_below f h =
        let from = In-unmap (λ (e : Label × ℕ). (path ++ e.0 ∷ [], e.1)) (names_in r.body) f h in
        (from.0.0, from.0.1, to_child from.0.0 ∙ In-all (λ e. key_in r.body e.0 ≡ Some e.1) (names_in r.body) from.0 names from.1, from.2)

    to_below : (l : Label) (k : ℕ) → child rs key l ≡ Some k → In below (path ++ l ∷ [], k)
    unfolding below
    to_below l k edge = In-map (λ (e : Label × ℕ). (path ++ e.0 ∷ [], e.1)) (names_in r.body) (l, k) (In-names r.body l k (sym (to_child l) ∙ edge))

    above : (f : List Label × ℕ) → In below f ⊎ In rest f → path_cmp path f.0 ≡ Less
    above f (inl h) = let from = from_below f h in subst (λ (e : List Label × ℕ). path_cmp path e.0 ≡ Less) from.3 (below-path path from.0)
    above f (inr h) = clears-itself path f.0 (walked.apart.0 f h)

    pub walk-next : IsWalked rs (found ++ (path, r.number) ∷ []) (below ++ rest)
    unfolding below
    walk-next = record {
      ordered = is_sorted-push path_cmp found (path, r.number) walked.ordered (λ d h. walked.before d (path, key) h (inl refl));
      before = λ e f h g. before e f (In-cases found ((path, r.number) ∷ []) e h) (above f (In-cases below rest f g));
      apart = apart-append below rest (apart-longer path (names_in r.body) ordered) walked.apart.1
          (λ e f h g. let from = from_below e h in subst (λ (d : List Label × ℕ). Clears d.0 f.0) from.3 (clears-below path from.0 f.0 (walked.apart.0 f g)));
      numbers = λ p n h. numbers p n (In-cases found ((path, r.number) ∷ []) (p, n) h);
      leads = λ p k h. leads p k (In-cases below rest (p, k) h);
      live = λ p k h. live p k (In-cases below rest (p, k) h);
      met = λ p k q to is. met p k q to is (walked.met p k q to is);
    }
      where
        before : (e f : List Label × ℕ) → In found e ⊎ In {A = List Label × ℕ} ((path, r.number) ∷ []) e → path_cmp path f.0 ≡ Less → path_cmp e.0 f.0 ≡ Less
        before e f (inl h) up = path_total.trans e.0 path f.0 (walked.before e (path, key) h (inl refl)) up
        before e f (inr (inl is)) up = ap (λ (d : List Label × ℕ). path_cmp d.0 f.0) (sym is) ∙ up
        before e f (inr (inr gone)) up = absurd gone

        numbers : (p : List Label) (n : ℕ) → In found (p, n) ⊎ In {A = List Label × ℕ} ((path, r.number) ∷ []) (p, n) → number_under rs p ≡ Some n
        numbers p n (inl h) = walked.numbers p n h
        numbers p n (inr (inl is)) =
            subst (λ (e : List Label × ℕ). number_under rs e.0 ≡ Some e.1) is
            (ap (option_and_then (λ k. option_map (λ (v : What). v.number) (what rs k))) to_path
            ∙ ap (λ o. option_map (λ (v : What). v.number) (option_map shown o)) here)
        numbers p n (inr (inr gone)) = absurd gone

        leads : (p : List Label) (k : ℕ) → In below (p, k) ⊎ In rest (p, k) → walk (child rs) 0 p ≡ Some k
        leads p k (inl h) =
            let from = from_below (p, k) h in
            subst (λ (e : List Label × ℕ). walk (child rs) 0 e.0 ≡ Some e.1) from.3
            (walk-more rs path from.0 key to_path ∙ ap (option_and_then (λ j. Some j)) from.2)
        leads p k (inr h) = walked.leads p k (inr h)

        live : (p : List Label) (k : ℕ) → In below (p, k) ⊎ In rest (p, k) → IsSome (row_under rs k)
        live p k (inl h) =
            let from = from_below (p, k) h in
            subst (λ (e : List Label × ℕ). IsSome (row_under rs e.1)) from.3 (table.tree.children key from.1 from.0 from.2)
        live p k (inr h) = walked.live p k (inr h)

        met : (p : List Label) (k : ℕ) (q : Row) → walk (child rs) 0 p ≡ Some k → row_under rs k ≡ Some q
            → In found (p, q.number) ⊎ IsPending ((path, key) ∷ rest) p
            → In (found ++ (path, r.number) ∷ []) (p, q.number) ⊎ IsPending (below ++ rest) p
        met p k q to is (inl h) = inl (In-left found _ (p, q.number) h)
        met p k q to is (inr (e, inr h, s, split)) = inr (e, In-right below rest e h, s, split)
        met p k q to is (inr (e, inl same, s, split)) = by s (split ∙ ap (λ (d : List Label × ℕ). d.0 ++ s) (sym same))
          where
            by : (s : List Label) → p ≡ path ++ s → In (found ++ (path, r.number) ∷ []) (p, q.number) ⊎ IsPending (below ++ rest) p
            by [] split =
                let here_too : path ≡ p = sym (split ∙ append-nil path) in
                let key_too : key ≡ k = same_some key k (sym to_path ∙ ap (walk (child rs) 0) here_too ∙ to) in
                let row_too : r ≡ q = same_some r q (sym here ∙ ap (row_under rs) key_too ∙ is) in
                inl (In-right found _ (p, q.number) (inl (λ i. (here_too i, (row_too i).number))))
            by (l ∷ t) split =
                edge (child rs key l) refl
                (sym (walk-append (child rs) 0 path (l ∷ t) ∙ ap (option_and_then (λ j. walk (child rs) j (l ∷ t))) to_path)
                ∙ ap (walk (child rs) 0) (sym split) ∙ to)
              where
                edge : (o : Option ℕ) → child rs key l ≡ o → option_and_then (λ j. walk (child rs) j t) o ≡ Some k
                    → In (found ++ (path, r.number) ∷ []) (p, q.number) ⊎ IsPending (below ++ rest) p
                edge None is e = absurd (some_none refl e)
                edge (Some j) is e =
                    inr ((path ++ l ∷ [], j), In-left below rest (path ++ l ∷ [], j) (to_below l j is), t, split ∙ sym (append_assoc path (l ∷ []) t))

-- one turn of the loop, where the stack has the next path at its end
pub walk-turn : (rs : Rows) (table : IsTable rs) (found is_found stack rest new : Entries) (path : List Label) (key number : ℕ)
    → IsWalked rs found (reverse stack) → stack ≡ rest ++ (path, key) ∷ [] → Visits rs path key rest new number
    → is_found ≡ found ++ (path, number) ∷ [] → IsWalked rs is_found (reverse new)
unfolding below
walk-turn rs table found is_found stack rest new path key number walked top visits more =
    let next = walk-next rs table found (reverse rest) path key visits.row
    (subst (IsWalked rs found) (ap reverse top ∙ reverse-append rest ((path, key) ∷ [])) walked) visits.here visits.ordered visits.names in
    subst (λ es. IsWalked rs es (reverse new)) (sym (more ∙ ap (λ n. found ++ (path, n) ∷ []) visits.numbered))
    (subst (IsWalked rs (found ++ (path, visits.row.number) ∷ []))
    (sym (ap reverse visits.put_off ∙ reverse-append rest (reverse (longer path (names_in visits.row.body)))
    ∙ ap (λ es. es ++ reverse rest) (reverse-reverse (longer path (names_in visits.row.body)))))
    next)

pub walk-live : (rs : Rows) (found stack rest : Entries) (path : List Label) (key : ℕ) → IsWalked rs found (reverse stack)
    → stack ≡ rest ++ (path, key) ∷ [] → IsSome (row_under rs key)
walk-live rs found stack rest path key walked top =
    walked.live path key (subst (λ es. In es (path, key)) (sym (ap reverse top ∙ reverse-append rest ((path, key) ∷ []))) (inl refl))

-- ---- at the end all is found

number-parts : (rs : Rows) (p : List Label) (n : ℕ) → number_under rs p ≡ Some n
    → (k : ℕ) × (r : Row) × (walk (child rs) 0 p ≡ Some k) × (row_under rs k ≡ Some r) × (r.number ≡ n)
number-parts rs p n e = by (walk (child rs) 0 p) refl e
  where
    by : (o : Option ℕ) → walk (child rs) 0 p ≡ o → option_and_then (λ k. option_map (λ (v : What). v.number) (what rs k)) o ≡ Some n
        → (k : ℕ) × (r : Row) × (walk (child rs) 0 p ≡ Some k) × (row_under rs k ≡ Some r) × (r.number ≡ n)
    by None to e = absurd (some_none refl e)
    by (Some k) to e = at (row_under rs k) refl e
      where
        at : (o : Option Row) → row_under rs k ≡ o → option_map (λ (v : What). v.number) (option_map shown o) ≡ Some n
            → (k : ℕ) × (r : Row) × (walk (child rs) 0 p ≡ Some k) × (row_under rs k ≡ Some r) × (r.number ≡ n)
        at None is e = absurd (some_none refl e)
        at (Some r) is e = (k, r, to, is, same_some r.number n e)

pub walk-end : (rs : Rows) (found : Entries) → IsWalked rs found [] → ArePaths rs found
walk-end rs found walked = record { ordered = holds (is_sorted path_cmp found) walked.ordered; numbers = λ p. by p (find path_cmp p found) refl }
  where
    none : (p : List Label) → find path_cmp p found ≡ None → (o : Option ℕ) → number_under rs p ≡ o → None ≡ o
    none p absent None e = refl
    none p absent (Some n) e =
        let at = number-parts rs p n e in
        elim (walked.met p at.0 at.1 at.2 at.3) [
          | inl h ↦ absurd (some_none absent (find-In path_total path_exact found p at.1.number walked.ordered h))
          | inr w ↦ absurd w.1
        ]

    by : (p : List Label) (o : Option ℕ) → find path_cmp p found ≡ o → find path_cmp p found ≡ number_under rs p
    by p None e = e ∙ none p e (number_under rs p) refl
    by p (Some n) e = e ∙ sym (walked.numbers p n (In-find path_total path_exact found p n e))

pub flat-entries : (rs : Rows) (found : Entries) (m : FinMap path_cmp ℕ) → ArePaths rs found
    → ((p : List Label) → number_under rs p ≡ finmap.get m p) → found ≡ entries m
flat-entries rs found m are is = entries-of path_total path_exact found m (subst T (sym are.ordered) tt) (λ p. are.numbers p ∙ is p)

-- ---- one node

pub row-node : (s : Slab Node) (k : ℕ) (n : Node) → Some n ≡ get s k → row_under (rows_of s) k ≡ Some (row_of n)
row-node s k n found = row-rows_of s k ∙ ap (option_map row_of) (sym found)

module _ (path : List Label) (b : Body) (was is : Entries) where
  -- the names of a directory go onto the stack
  pub put-directory : (m : BTreeMap Label ℕ) → b ≡ Names m.entries → is ≡ was ++ reverse (longer path m.entries)
      → is ≡ was ++ reverse (longer path (names_in b))
  put-directory m body put = put ∙ ap (λ c. was ++ reverse (longer path (names_in c))) (sym body)

  pub put-file : names_in b ≡ [] → is ≡ was → is ≡ was ++ reverse (longer path (names_in b))
  put-file none same = same ∙ sym (ap (λ es. was ++ reverse (longer path es)) none ∙ append-nil was)

abbrev pub AreNamed : Body → Type 0
AreNamed b = All (λ e. key_in b e.0 ≡ Some e.1) (names_in b)

abbrev pub AreOrdered : Body → Type 0
AreOrdered b = IsStrictlySortedBy (slice_cmp nat_cmp) (keys_of (names_in b))

pub named-directory : (b : Body) (m : BTreeMap Label ℕ) → b ≡ Names m.entries → All (λ e. tree.get (slice_cmp nat_cmp) m e.0 ≡ Some e.1) m.entries → AreNamed b
named-directory b m body all = subst AreNamed (sym body) all

pub named-file : (b : Body) → names_in b ≡ [] → AreNamed b
named-file b none k d below = absurd (let n = ap length none in omega (arith, below, n))

pub ordered-directory : (b : Body) (m : BTreeMap Label ℕ) → b ≡ Names m.entries → tree.IsOrdered (slice_cmp nat_cmp) m → AreOrdered b
ordered-directory b m body up = subst AreOrdered (sym body) up

pub ordered-file : (b : Body) → names_in b ≡ [] → AreOrdered b
unfolding IsStrictlySortedBy
ordered-file b none = subst (λ (es : List (Label × ℕ)). IsStrictlySortedBy (slice_cmp nat_cmp) (keys_of es)) (sym none) tt

pub end-of : {A : Type 0} (old new : List A) (n : ℕ) → n ≡ 0 → old ≡ new ++ [] → new ≡ take (n - 1) old → old ≡ []
end-of old new n none parts rest = parts ∙ append-nil new ∙ rest ∙ ap (λ k. take (k - 1) old) none

-- the last name that is left goes onto the stack
pub stack-turn : (path : List Label) (was is all : Entries) (left rest : List (Label × ℕ)) (name : Label) (k : ℕ)
    → was ++ reverse (longer path left) ≡ all → left ≡ rest ++ (name, k) ∷ [] → is ≡ was ++ (path ++ name ∷ [], k) ∷ [] → is ++ reverse (longer path rest) ≡ all
stack-turn path was is all left rest name k so_far last put =
    ap (λ es. es ++ reverse (longer path rest)) put
    ∙ append_assoc was ((path ++ name ∷ [], k) ∷ []) (reverse (longer path rest))
    ∙ ap (λ es. was ++ es)
    (sym (ap (λ ns. reverse (longer path ns)) last
    ∙ ap reverse (map-append (λ (e : Label × ℕ). (path ++ e.0 ∷ [], e.1)) rest ((name, k) ∷ []))
    ∙ reverse-append (longer path rest) ((path ++ name ∷ [], k) ∷ [])))
    ∙ so_far

pub stack-end : (path : List Label) (was all : Entries) (left : List (Label × ℕ)) → was ++ reverse (longer path left) ≡ all → left ≡ [] → was ≡ all
stack-end path was all left so_far none = sym (ap (λ ns. was ++ reverse (longer path ns)) none ∙ append-nil was) ∙ so_far
