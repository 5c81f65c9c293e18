-- The instances that the index notes for a file are those that watch it.
use Rattle.std.proofs.Common.{◌≡◌, ℕ, Bool, true, false, cond, eqb, T, ◌||◌, ◌&&◌, Option, Some, None, is_some, List, [], ◌∷◌, map, refl, sym, ap, ◌∙◌}
use Rattle.std.specs.BTreeMap as tree
use Rattle.std.specs.FinMap as finmap
use Rattle.std.proofs.lemmas.Bool.{false≢true}
use Rattle.std.specs.FinMap.{is_sorted, entries, entries_sorted, contains_key-keys}
use Rattle.std.specs.FinMap.Entries.{below_all}
use Rattle.std.specs.List.{AllByRecursion, filter, list_any}
use Rattle.std.specs.List.Sorted.{IsStrictlySortedBy}
use Rattle.std.specs.Ordering.{nat_cmp, eq_by_cmp, is_lt}
use Rattle.std.specs.declared.cmp.Ordering.{Ordering}
use Rattle.std.specs.declared.cmp.Ordering.TheVariants.{Less, Equal, Greater}
use Rattle.std.specs.Cmp.{unsigned_tied}
use Rattle.std.proofs.lemmas.List.Kept.{IsStrictlySortedBy-filter}
use Rattle.instance_table.specs.declared.instance.Instance.{Instance}
use Rattle.instance_table.specs.declared.instances.Instances.TheInside.{Inside}
use Rattle.instance_table.proofs.IdSets.{IdSet, set_of}
use Rattle.instance_table.specs.Index.{row_under, watch_noted}
use Rattle.instance_table.specs.Filters.{passes}
use Rattle.instance_table.specs.Instances.{instance_of, watchers_of, watches_file}
use Rattle.instance_table.specs.Views.{instances_of, NotesEveryWatch}
use Rattle.file_watchers.specs.Watchers.{WatchMap}
use Rattle.instance_table.specs.Watchers.{watch_at}
use Rattle.instance_table.proofs.Noted.{none-noted}
use Rattle.instance_table.proofs.IdSets.{get-set, mark, same-set, items-rising}
use Rattle.file_watchers.proofs.Rising.{is-same}

first : (a b : Bool) → T (a && b) → T a
first true b p = tt
first false b p = p

second : (a b : Bool) → T (a && b) → T b
second true b p = p
second false b p = absurd p

less : (o : Ordering) → T (is_lt o) → o ≡ Less
less Less p = refl
less Equal p = absurd p
less Greater p = absurd p

above : {X : Type 0} (k : ℕ) (es : List (ℕ × X)) → T (below_all nat_cmp k es) → AllByRecursion (λ y. nat_cmp k y ≡ Less) (map (λ (e : ℕ × X). e.0) es)
above k [] h = tt
above k (e ∷ es) h =
    (less (nat_cmp k e.0) (first (is_lt (nat_cmp k e.0)) (below_all nat_cmp k es) h), above k es (second (is_lt (nat_cmp k e.0)) (below_all nat_cmp k es) h))

pub rising : {X : Type 0} (es : List (ℕ × X)) → T (is_sorted nat_cmp es) → IsStrictlySortedBy nat_cmp (map (λ (e : ℕ × X). e.0) es)
unfolding IsStrictlySortedBy
rising [] h = tt
rising (e ∷ es) h =
    (above e.0 es (first (below_all nat_cmp e.0 es) (is_sorted nat_cmp es) h), rising es (second (below_all nat_cmp e.0 es) (is_sorted nat_cmp es) h))

-- a number is among those that pass a test where it is among all and passes it
any-filter : (p : ℕ → Bool) (q : ℕ) (ks : List ℕ) → list_any (eq_by_cmp nat_cmp q) (filter p ks) ≡ (list_any (eq_by_cmp nat_cmp q) ks && p q)
any-filter p q [] = refl
any-filter p q (k ∷ ks) =
    elim (p k) as (λ b. p k ≡ b
    → list_any (eq_by_cmp nat_cmp q) (cond b (k ∷ filter p ks) (filter p ks)) ≡ ((eq_by_cmp nat_cmp q k || list_any (eq_by_cmp nat_cmp q) ks) && p q)) [
      | true ↦
          λ pk. ap (λ b. eq_by_cmp nat_cmp q k || b) (any-filter p q ks)
          ∙ passes (eq_by_cmp nat_cmp q k) (list_any (eq_by_cmp nat_cmp q) ks) (p q) (λ t. ap p (is-same q k t) ∙ pk)
      | false ↦ λ pk. any-filter p q ks ∙ fails (eq_by_cmp nat_cmp q k) (list_any (eq_by_cmp nat_cmp q) ks) (p q) (λ t. ap p (is-same q k t) ∙ pk)
    ] refl
  where
    passes : (t b c : Bool) → (t ≡ true → c ≡ true) → (t || (b && c)) ≡ ((t || b) && c)
    passes true b c h = sym (h refl)
    passes false b c h = refl

    fails : (t b c : Bool) → (t ≡ true → c ≡ false) → (b && c) ≡ ((t || b) && c)
    fails true b c h = ap (λ x. b && x) (h refl) ∙ off b ∙ sym (h refl)
      where
        off : (b : Bool) → (b && false) ≡ false
        off true = refl
        off false = refl
    fails false b c h = refl

watches-there : (n : ℕ) (o : Option Instance) → (is_some o && watches_file n o) ≡ watches_file n o
watches-there n None = refl
watches-there n (Some i) = refl

has-watch : (n : ℕ) (o : Option Instance) → is_some (watch_at n o) ≡ watches_file n o
has-watch n None = refl
has-watch n (Some i) = refl

-- a file that does not pass the filter is unwatched
pub stopped-unwatched : (a : Inside) → NotesEveryWatch a → (number id : ℕ) → passes a.index.filter number ≡ false
    → watches_file number (instance_of (instances_of a) id) ≡ false
stopped-unwatched a whole number id none =
    sym (has-watch number (instance_of (instances_of a) id)) ∙ ap is_some (sym (whole.noted number id))
    ∙ ap is_some (by (tree.get nat_cmp a.index.watchers number) refl)
  where
    by : (o : Option WatchMap) → tree.get nat_cmp a.index.watchers number ≡ o → watch_noted a.index number id ≡ None
    by None e = none-noted a.index number id e
    by (Some row) e = absurd (false≢true (sym none ∙ (whole.rows number row e).1))

pub watchers-noted : (a : Inside) (whole : NotesEveryWatch a) (number : ℕ) → finmap.keys (row_under a.index number) ≡ watchers_of (instances_of a) number
unfolding watchers_of
watchers-noted a whole number =
    let m = instances_of a in
    let row = row_under a.index number in
    let noted : List ℕ = finmap.keys row in
    let p : ℕ → Bool = λ id. watches_file number (instance_of m id) in
    let ks = filter p (finmap.keys m) in
    let sorted : IsStrictlySortedBy nat_cmp ks = IsStrictlySortedBy-filter nat_cmp p (finmap.keys m) (rising (entries m) (entries_sorted m)) in
    let same : set_of ks ≡ set_of noted = same-set ks (set_of noted) (λ q.
    ap mark (any-filter p q (finmap.keys m) ∙ ap (λ b. b && p q) (sym (contains_key-keys m q))
    ∙ watches-there number (instance_of m q) ∙ sym (has-watch number (instance_of m q)) ∙ ap is_some (sym (whole.noted number q))
    ∙ contains_key-keys row q)
    ∙ sym (get-set noted q)) in
    sym (items-rising noted (rising (entries row) (entries_sorted row))) ∙ ap (λ (s : IdSet). finmap.keys s) (sym same) ∙ items-rising ks sorted

pub same-tests : (q : ℕ) (ks : List ℕ) → list_any (λ id. eqb q id) ks ≡ list_any (eq_by_cmp nat_cmp q) ks
same-tests q [] = refl
same-tests q (k ∷ ks) = ap (λ b. b || list_any (λ id. eqb q id) ks) (sym (unsigned_tied q k)) ∙ ap (λ b. eq_by_cmp nat_cmp q k || b) (same-tests q ks)
