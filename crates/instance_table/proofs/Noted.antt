-- What an index notes after its entry of a file has changed.
use Rattle.std.proofs.Common.{◌≡◌, ◌≢◌, ℕ, List, [], ◌∷◌, length, arith, Bool, true, false, cond, ◌&&◌, eqb}
use Rattle.std.proofs.Common.{Option, Some, None, is_some, refl, sym, ap, ◌∙◌}
use Rattle.std.specs.Option.{unwrap_or}
use Rattle.std.specs.Prelude.{Result, Ok, Err, OnOk, OnErr}
use Rattle.std.specs.BTreeMap as tree
use Rattle.std.specs.FinMap as map
use Rattle.std.specs.FinMap.{find, get-insert, get-remove, get-empty, same_map, nat_cmp-IsAntisymmetric}
use Rattle.std.specs.Ordering.{nat_cmp, eq_by_cmp}
use Rattle.std.specs.Cmp.{nat_cmp_total, unsigned_tied, eq_by_cmp_equiv}
use Rattle.instance_table.specs.declared.index.Index.{Index}
use Rattle.instance_table.specs.declared.filter.WatchFilter.{WatchFilter}
use Rattle.watch_table.specs.declared.watch.Watch.{Watch}
use Rattle.file_watchers.specs.Watchers.{WatchMap}
use Rattle.file_watchers.proofs.Alone.{put-not-empty}
use Rattle.instance_table.specs.Watchers.{row_or_none}
use Rattle.instance_table.specs.Index.{HasSoundRows, row_under, watch_noted}
use Rattle.instance_table.specs.Filters.{passes}

-- nothing is noted under a file that has no entry
pub none-noted : (index : Index) (n q : ℕ) → tree.get nat_cmp index.watchers n ≡ None → watch_noted index n q ≡ None
none-noted index n q h = ap (λ o. map.get (row_or_none o) q) h ∙ get-empty nat_cmp q

pub row-none : (index : Index) (n : ℕ) → tree.get nat_cmp index.watchers n ≡ None → row_under index n ≡ map.empty
row-none index n h = ap row_or_none h

pub row-some : (index : Index) (n : ℕ) (row : WatchMap) → tree.get nat_cmp index.watchers n ≡ Some row → row_under index n ≡ row
row-some index n row h = ap row_or_none h

module _ (a b : Index) (number : ℕ) (w : Option WatchMap)
    (h : (n : ℕ) → tree.get nat_cmp b.watchers n ≡ cond (eq_by_cmp nat_cmp number n) w (tree.get nat_cmp a.watchers n)) where
  under : (n : ℕ) → tree.get nat_cmp b.watchers n ≡ cond (eqb n number) w (tree.get nat_cmp a.watchers n)
  under n = h n ∙ ap (λ t. cond t w (tree.get nat_cmp a.watchers n)) ((eq_by_cmp_equiv nat_cmp_total).symm number n ∙ unsigned_tied n number)

  -- no row is empty, where the entry is not
  pub rows-kept : ((n : ℕ) → passes a.filter n ≡ true → passes b.filter n ≡ true)
      → ((row : WatchMap) → w ≡ Some row → passes b.filter number ≡ true)
      → ((row : WatchMap) → w ≡ Some row → row ≢ map.empty) → HasSoundRows a → HasSoundRows b
  rows-kept kept added new rows n row e =
      elim (eqb n number) as (λ t. eqb n number ≡ t → cond t w (tree.get nat_cmp a.watchers n) ≡ Some row
      → (row ≢ map.empty) × (passes b.filter n ≡ true)) [
        | true ↦ λ t e. (new row e, ap (passes b.filter) (Rattle.std.proofs.lemmas.Bool.eqb-true n number t) ∙ added row e)
        | false ↦ λ t e. ((rows n row e).0, kept n (rows n row e).1)
      ] refl (sym (under n) ∙ e)

  -- the entry has the watch of one instance more, or another watch of it
  pub noted-put : (id : ℕ) (watch : Watch) → row_or_none w ≡ map.insert (row_under a number) id watch → (n q : ℕ)
      → watch_noted b n q ≡ cond (eqb n number && eqb q id) (Some watch) (watch_noted a n q)
  noted-put id watch e n q =
      ap (λ o. map.get (row_or_none o) q) (under n)
      ∙ elim (eqb n number) as (λ t. eqb n number ≡ t
      → map.get (row_or_none (cond t w (tree.get nat_cmp a.watchers n))) q ≡ cond (t && eqb q id) (Some watch) (watch_noted a n q)) [
        | true ↦ λ t.
            let same : n ≡ number = Rattle.std.proofs.lemmas.Bool.eqb-true n number t in
            ap (λ row. map.get row q) e ∙ get-insert nat_cmp_total (row_under a number) id watch q
            ∙ ap (λ x. cond x (Some watch) (watch_noted a number q)) (unsigned_tied q id)
            ∙ ap (λ m. cond (eqb q id) (Some watch) (watch_noted a m q)) (sym same)
        | false ↦ λ t. refl
      ] refl

  -- the entry has the watch of one instance less
  pub noted-cut : (id : ℕ) → row_or_none w ≡ map.remove (row_under a number) id → (n q : ℕ)
      → watch_noted b n q ≡ cond (eqb n number && eqb q id) None (watch_noted a n q)
  noted-cut id e n q =
      ap (λ o. map.get (row_or_none o) q) (under n)
      ∙ elim (eqb n number) as (λ t. eqb n number ≡ t
      → map.get (row_or_none (cond t w (tree.get nat_cmp a.watchers n))) q ≡ cond (t && eqb q id) None (watch_noted a n q)) [
        | true ↦ λ t.
            let same : n ≡ number = Rattle.std.proofs.lemmas.Bool.eqb-true n number t in
            ap (λ row. map.get row q) e ∙ get-remove nat_cmp_total (row_under a number) id q
            ∙ ap (λ x. cond x None (watch_noted a number q)) (unsigned_tied q id)
            ∙ ap (λ m. cond (eqb q id) None (watch_noted a m q)) (sym same)
        | false ↦ λ t. refl
      ] refl

-- a file that has no entry has no watcher to take out
pub noted-off : (a b : Index) (number id : ℕ) → tree.get nat_cmp a.watchers number ≡ None
    → ((n q : ℕ) → watch_noted b n q ≡ watch_noted a n q)
    → (n q : ℕ) → watch_noted b n q ≡ cond (eqb n number && eqb q id) None (watch_noted a n q)
noted-off a b number id h same n q =
    same n q
    ∙ elim (eqb n number) as (λ t. eqb n number ≡ t → watch_noted a n q ≡ cond (t && eqb q id) None (watch_noted a n q)) [
      | true ↦ λ t.
          off (eqb q id) (watch_noted a n q) (ap (λ m. watch_noted a m q) (Rattle.std.proofs.lemmas.Bool.eqb-true n number t) ∙ none-noted a number q h)
      | false ↦ λ t. refl
    ] refl
  where
    off : (b : Bool) (x : Option Watch) → x ≡ None → x ≡ cond b None x
    off true x e = e
    off false x e = refl

-- a row that is this one
pub row-is : (seen : WatchMap) → seen ≢ map.empty → (row : WatchMap) → Some seen ≡ Some row → row ≢ map.empty
row-is seen full row e none = full (ap (λ o. unwrap_or o seen) e ∙ none)

pub no-row : (row : WatchMap) → ◌≡◌ {A = Option WatchMap} None (Some row) → row ≢ map.empty
no-row row e = absurd (Rattle.std.proofs.lemmas.Bool.false≢true (ap is_some e))

pub none-added : (filter : WatchFilter) (number : ℕ) (row : WatchMap) → ◌≡◌ {A = Option WatchMap} None (Some row) → passes filter number ≡ true
none-added filter number row e = absurd (Rattle.std.proofs.lemmas.Bool.false≢true (ap is_some e))

-- a row in which a watch was to be put
pub row-added : {E : Type 0} (r : Result (Unit {0}) E) (was now : WatchMap) (id : ℕ) (watch : Watch)
    → OnOk r (now ≡ map.insert was id watch) → OnErr r (now ≡ was) → was ≢ map.empty → now ≢ map.empty
row-added (Ok x) was now id watch ok err full none = put-not-empty was id watch (sym ok ∙ none)
row-added (Err x) was now id watch ok err full none = full (sym err ∙ none)

-- ---- an index of no rows

pub nothing-noted : (index : Index) → length index.watchers.entries ≡ 0 → (n q : ℕ) → watch_noted index n q ≡ None
nothing-noted index none n q = none-noted index n q (ap (find nat_cmp n) (no-items index.watchers.entries none))
  where
    no-items : (es : List (ℕ × WatchMap)) → length es ≡ 0 → es ≡ []
    no-items [] h = refl
    no-items (e ∷ es) h = absurd (omega arith)

pub noted-nothing : (index : Index) → HasSoundRows index → ((n q : ℕ) → watch_noted index n q ≡ None) → length index.watchers.entries ≡ 0
noted-nothing index rows none = by index.watchers.entries refl
  where
    by : (es : List (ℕ × WatchMap)) → index.watchers.entries ≡ es → length index.watchers.entries ≡ 0
    by [] e = ap length e
    by (x ∷ es) e =
        let there : tree.get nat_cmp index.watchers x.0 ≡ Some x.1 =
        ap (find nat_cmp x.0) e
        ∙ ap (λ b. cond b (Some x.1) (find nat_cmp x.0 es)) (unsigned_tied x.0 x.0 ∙ Rattle.std.proofs.lemmas.Bool.eq-eqb x.0 x.0 refl) in
        let empty : x.1 ≡ map.empty = same_map nat_cmp_total nat_cmp-IsAntisymmetric x.1 map.empty
        (λ q. ap (λ row. map.get row q) (sym (row-some index x.0 x.1 there)) ∙ none x.0 q ∙ sym (get-empty nat_cmp q)) in
        absurd ((rows x.0 x.1 there).0 empty)
