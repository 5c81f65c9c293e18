-- The open instances and the index of watchers, changed together.
use Rattle.std.proofs.Common.{◌≡◌, ℕ, Bool, true, false, cond, ◌&&◌, ◌++◌, ◌∷◌, [], suc, List, take, drop}
use Rattle.std.proofs.Common.{set, get_or, eqb, Option, Some, None, is_some, is_none, refl, sym, ap, ◌∙◌, subst, arith, ◌<◌, ◌^◌, ◌||◌, nat_le, nat_lt}
use Rattle.std.specs.Prelude.{pos, ℤ, Result, Ok, Err, OnOk, OnErr}
use Rattle.std.specs.Option.{option_map_or}
use Rattle.record_codec.specs.Records.{AreEvents}
use Rattle.tree_paths.specs.declared.refusal.Refusal.{Refusal}
use Rattle.std.specs.Vec.{with_item}
use Rattle.std.specs.FinMap as map
use Rattle.std.specs.FinMap.{get-insert, get-remove, same_map, nat_cmp-IsAntisymmetric}
use Rattle.std.specs.Ordering.{nat_cmp}
use Rattle.std.specs.Cmp.{nat_cmp_total, unsigned_tied}
use Rattle.event_queue.specs.Backlogs.{Backlog}
use Rattle.watch_table.specs.declared.watch.Watch.{Watch}
use Rattle.watch_table.specs.Masks.{stored}
use Rattle.watch_table.specs.Watching.{Watching, IsSound, next_bits, watch_of, added, wd_added, with_new_watch, dropped, add_refusal}
use Rattle.watch_table.proofs.Watched.{added_to, wd_or}
use Rattle.watch_table.specs.Watching.{is_barred, is_taken, is_full}
use Rattle.tree_paths.specs.Rows.{row, first_row}
use Rattle.tree_paths.specs.declared.refusal.Refusal.TheVariants.{Enotdir, Eexist, Enospc}
use Rattle.instance_table.specs.declared.index.Index.{Index}
use Rattle.instance_table.specs.declared.instance.Instance.{Instance}
use Rattle.instance_table.specs.declared.instances.Instances.TheInside.{Inside}
use Rattle.instance_table.specs.Index.{HasSoundRows, watch_noted}
use Rattle.instance_table.specs.Instances.{Instances, WaitingAreEvents, instance_of, changed, waiting_of}
use Rattle.instance_table.specs.declared.opened.Opened.{Opened}
use Rattle.file_watchers.specs.Ids.{IsIndex}
use Rattle.instance_table.specs.Opened.{by_number, ids_of}
use Rattle.instance_table.specs.Views.{instances_of, NotesEveryWatch}
use Rattle.instance_table.specs.Watchers.{watch_at}
use Rattle.file_watchers.proofs.Rising.{entries-rising, get-absent, get-at, length-keys, cut-absent, map-cut, map-put}
use Rattle.file_watchers.proofs.Rising.{map-set, rises-cut, rises-put, rises-set}
use Rattle.std.proofs.lemmas.List.{get_or-map}
use Rattle.std.proofs.lemmas.Bool.{false≢true, ltb-false}
use Rattle.std.specs.List.Sorted.{IsStrictlySortedBy}

-- ---- one instance changes

-- the instances after a change of one that may be there
abbrev changed_by : Instances → ℕ → (Instance → Instance) → Option Instance → Instances
changed_by m id change o = option_map_or (λ i. map.insert m id (change i)) o m

pub changed-there : (m : Instances) (id : ℕ) (change : Instance → Instance) (i : Instance) → instance_of m id ≡ Some i
    → changed m id change ≡ map.insert m id (change i)
unfolding changed
changed-there m id change i h = ap (changed_by m id change) h

pub changed-none : (m : Instances) (id : ℕ) (change : Instance → Instance) → instance_of m id ≡ None → changed m id change ≡ m
unfolding changed
changed-none m id change h = ap (changed_by m id change) h

pub get-put : (m : Instances) (id : ℕ) (i : Instance) (q : ℕ) → instance_of (map.insert m id i) q ≡ cond (eqb q id) (Some i) (instance_of m q)
get-put m id i q = get-insert nat_cmp_total m id i q ∙ ap (λ t. cond t (Some i) (instance_of m q)) (unsigned_tied q id)

pub get-cut : (m : Instances) (id q : ℕ) → instance_of (map.remove m id) q ≡ cond (eqb q id) None (instance_of m q)
get-cut m id q = get-remove nat_cmp_total m id q ∙ ap (λ t. cond t None (instance_of m q)) (unsigned_tied q id)

pub is-same : (q id : ℕ) → eqb q id ≡ true → q ≡ id
is-same q id t = Rattle.std.proofs.lemmas.Bool.eqb-true q id t

-- an instance that is put where it is
pub put-same : (m : Instances) (id : ℕ) (i : Instance) → instance_of m id ≡ Some i → map.insert m id i ≡ m
put-same m id i h = same_map nat_cmp_total nat_cmp-IsAntisymmetric _ _ (λ q.
    get-put m id i q ∙ elim (eqb q id) as (λ t. eqb q id ≡ t → cond t (Some i) (instance_of m q) ≡ instance_of m q) [
      | true ↦ λ t. sym h ∙ ap (instance_of m) (sym (is-same q id t))
      | false ↦ λ t. refl
    ] refl)

-- the watches for a file where an instance has other watches
pub watched-put : (m : Instances) (id : ℕ) (i : Instance) (n q : ℕ)
    → watch_at n (instance_of (map.insert m id i) q) ≡ cond (eqb q id) (watch_of i.watches n) (watch_at n (instance_of m q))
watched-put m id i n q =
    ap (watch_at n) (get-put m id i q)
    ∙ elim (eqb q id) as (λ t. watch_at n (cond t (Some i) (instance_of m q)) ≡ cond t (watch_of i.watches n) (watch_at n (instance_of m q)))
    [ true ↦ refl | false ↦ refl ]

pub watched-cut : (m : Instances) (id n q : ℕ) → watch_at n (instance_of (map.remove m id) q) ≡ cond (eqb q id) None (watch_at n (instance_of m q))
watched-cut m id n q =
    ap (watch_at n) (get-cut m id q)
    ∙ elim (eqb q id) as (λ t. watch_at n (cond t None (instance_of m q)) ≡ cond t None (watch_at n (instance_of m q))) [ true ↦ refl | false ↦ refl ]

pub watched-dropped : (w : Watching) (number n : ℕ) → watch_of (dropped w number) n ≡ cond (eqb n number) None (watch_of w n)
unfolding dropped
watched-dropped w number n =
    get-remove nat_cmp_total w.watches number n ∙ ap (λ t. cond t None (watch_of w n)) (unsigned_tied n number)

watched-inserted : (m : map.FinMap nat_cmp Watch) (number n : ℕ) (x : Watch)
    → map.get (map.insert m number x) n ≡ cond (eqb n number) (map.get (map.insert m number x) number) (map.get m n)
watched-inserted m number n x =
    get-insert nat_cmp_total m number x n ∙ ap (λ t. cond t (Some x) (map.get m n)) (unsigned_tied n number)
    ∙ ap (λ o. cond (eqb n number) o (map.get m n)) (sym at)
  where
    at : map.get (map.insert m number x) number ≡ Some x
    at =
        get-insert nat_cmp_total m number x number
        ∙ ap (λ t. cond t (Some x) (map.get m number)) (unsigned_tied number number ∙ Rattle.std.proofs.lemmas.Bool.eq-eqb number number refl)

-- only the watch of one file is another after a call to watch it
pub watched-added : (w : Watching) (number mask n : ℕ)
    → watch_of (added w number mask) n ≡ cond (eqb n number) (watch_of (added w number mask) number) (watch_of w n)
unfolding added
watched-added w number mask n = by (watch_of w number)
  where
    by : (o : Option Watch) → watch_of (added_to w number mask o) n
        ≡ cond (eqb n number) (watch_of (added_to w number mask o) number) (watch_of w n)
    by None = watched-inserted w.watches number n (record { wd = pos w.next_wd; mask = stored mask })
    by (Some watch) = watched-inserted w.watches number n (record watch { mask = next_bits mask watch.mask })

-- what a file gets which has no watch
pub first-watch : (w : Watching) (number mask : ℕ) → watch_of w number ≡ None
    → watch_of (added w number mask) number ≡ Some (record { wd = pos w.next_wd; mask = stored mask })
unfolding added
first-watch w number mask none =
    ap (λ o. watch_of (added_to w number mask o) number) none
    ∙ get-insert nat_cmp_total w.watches number (record { wd = pos w.next_wd; mask = stored mask }) number
    ∙ ap (λ t. cond t (Some (record { wd = pos w.next_wd; mask = stored mask })) (watch_of w number))
    (unsigned_tied number number ∙ Rattle.std.proofs.lemmas.Bool.eq-eqb number number refl)

-- what a file gets which has one
pub next-watch : (w : Watching) (number mask : ℕ) (watch : Watch) → watch_of w number ≡ Some watch
    → watch_of (added w number mask) number ≡ Some (record watch { mask = next_bits mask watch.mask })
unfolding added
next-watch w number mask watch there =
    ap (λ o. watch_of (added_to w number mask o) number) there
    ∙ get-insert nat_cmp_total w.watches number (record watch { mask = next_bits mask watch.mask }) number
    ∙ ap (λ t. cond t (Some (record watch { mask = next_bits mask watch.mask })) (watch_of w number))
    (unsigned_tied number number ∙ Rattle.std.proofs.lemmas.Bool.eq-eqb number number refl)

-- so the watches have a new one, under the next descriptor
pub added-first : (w : Watching) (number mask : ℕ) → watch_of w number ≡ None
    → added w number mask ≡ with_new_watch w number (stored mask)
unfolding added
added-first w number mask none = ap (added_to w number mask) none

pub wd-first : (w : Watching) (number : ℕ) → watch_of w number ≡ None → wd_added w number ≡ pos w.next_wd
unfolding wd_added
wd-first w number none = ap (λ o. wd_or o (pos w.next_wd)) none

-- where it is accepted, one more can be watched
pub room-left : (w : Watching) (number mask : ℕ) (is_directory : Bool) → watch_of w number ≡ None
    → add_refusal w number mask is_directory ≡ None → is_full w ≡ false
unfolding add_refusal
room-left w number mask is_directory none accepted =
    by (is_barred mask is_directory) (is_taken mask None) (is_full w)
    (subst (λ o. first_row (row (is_barred mask is_directory) Enotdir
    ∷ row (is_taken mask o) Eexist ∷ row (is_none o && is_full w) Enospc ∷ []) ≡ None) none accepted)
  where
    by : (barred taken full : Bool)
        → first_row (row barred Enotdir ∷ row taken Eexist ∷ row (true && full) Enospc ∷ []) ≡ None → full ≡ false
    by true taken full e = absurd (false≢true (sym (ap is_some e)))
    by false true full e = absurd (false≢true (sym (ap is_some e)))
    by false false true e = absurd (false≢true (sym (ap is_some e)))
    by false false false e = refl

-- and a descriptor
pub wd-left : (w : Watching) → IsSound w → is_full w ≡ false → w.next_wd < 2 ^ 31
wd-left w sound room =
    let within = ltb-false w.last_wd w.next_wd (by (nat_le w.most_watches (map.len w.watches)) (nat_lt w.last_wd w.next_wd) room) in
    let last = sound.small in
    omega (arith, within, last)
  where
    by : (many past : Bool) → (many || past) ≡ false → past ≡ false
    by true past e = absurd (false≢true (sym e))
    by false past e = e

-- ---- what waits

pub waiting-put : (m : Instances) (id : ℕ) (i : Instance) → WaitingAreEvents m → AreEvents i.queue.waiting → WaitingAreEvents (map.insert m id i)
waiting-put m id i all new q = subst (λ o. AreEvents (waiting_of o)) (sym (get-put m id i q)) (by (eqb q id))
  where
    by : (b : Bool) → AreEvents (waiting_of (cond b (Some i) (instance_of m q)))
    by true = new
    by false = all q

pub waiting-cut : (m : Instances) (id : ℕ) → WaitingAreEvents m → WaitingAreEvents (map.remove m id)
waiting-cut m id all q = subst (λ o. AreEvents (waiting_of o)) (sym (get-cut m id q)) (by (eqb q id))
  where
    by : (b : Bool) → AreEvents (waiting_of (cond b None (instance_of m q)))
    by true = tt
    by false = all q

-- ---- the rows

module _ (rows : List Opened) (id place : ℕ) (rising : IsStrictlySortedBy nat_cmp (ids_of rows)) (at : IsIndex (ids_of rows) id (Ok place)) where
  -- the instance at the index of a number
  pub instance-at : (row : Opened) → row ≡ get_or rows place row → instance_of (by_number rows) id ≡ Some row.instance
  instance-at row e =
      get-at (λ (o : Opened). o.id) (λ (o : Opened). o.instance) rows place id row rising at.0 at.1 ∙ ap (λ (o : Opened). Some o.instance) (sym e)

  -- another instance at the index of a number
  module _ (row : Opened) (same : row.id ≡ id) where
    numbered : get_or (ids_of rows) place 0 ≡ row.id
    numbered = at.1 ∙ sym same

    pub rows-set : by_number (set rows place row) ≡ map.insert (by_number rows) id row.instance
    rows-set =
        map-set (λ (o : Opened). o.id) (λ (o : Opened). o.instance) rows place row rising at.0 numbered
        ∙ ap (λ n. map.insert (by_number rows) n row.instance) same

    pub numbers-set : IsStrictlySortedBy nat_cmp (ids_of (set rows place row))
    numbers-set = rises-set (λ (o : Opened). o.id) (λ (o : Opened). o.instance) rows place row rising numbered

  pub number-at : (row : Opened) → row ≡ get_or rows place row → row.id ≡ id
  number-at row e =
      ap (λ (o : Opened). o.id) e
      ∙ sym (get_or-map (λ (o : Opened). o.id) rows place row 0 (omega (arith, at.0, length-keys (λ (o : Opened). o.id) rows))) ∙ at.1

  pub rows-cut : by_number (take place rows ++ drop (suc place) rows) ≡ map.remove (by_number rows) id
  rows-cut = map-cut (λ (o : Opened). o.id) (λ (o : Opened). o.instance) rows place id rising at.0 at.1

-- there is an instance at the index of a number
some-at : (rows : List Opened) (id slot : ℕ) → IsStrictlySortedBy nat_cmp (ids_of rows) → IsIndex (ids_of rows) id (Ok slot)
    → instance_of (by_number rows) id ≡ None → ⊥
some-at [] id slot rising at free = omega (arith, at.0)
some-at (row ∷ rows) id slot rising at free =
    false≢true (ap is_some (sym free ∙ get-at (λ (o : Opened). o.id) (λ (o : Opened). o.instance) (row ∷ rows) slot id row rising at.0 at.1))

-- ---- what the index notes of one instance

both : (b : Bool) (x y : Option Watch) → cond (b && true) x y ≡ cond b x y
both true x y = refl
both false x y = refl

alone : (b : Bool) (x y : Option Watch) → cond (b && false) x y ≡ y
alone true x y = refl
alone false x y = refl

module _ (a : Inside) (whole : NotesEveryWatch a) (id : ℕ) (i : Instance) (was : instance_of (instances_of a) id ≡ Some i) where
  -- what waits in an instance are events
  pub events-at : AreEvents i.queue.waiting
  events-at = subst (λ o. AreEvents (waiting_of o)) was (whole.records id)

  here : (n q : ℕ) → eqb q id ≡ true → watch_noted a.index n q ≡ watch_of i.watches n
  here n q t = whole.noted n q ∙ ap (λ x. watch_at n (instance_of (instances_of a) x)) (is-same q id t) ∙ ap (watch_at n) was

  -- the watch of one file is dropped
  pub noted-dropped : (number : ℕ) (w : Watching) → w ≡ dropped i.watches number → (index : Index)
      → ((n q : ℕ) → watch_noted index n q ≡ cond (eqb n number && eqb q id) None (watch_noted a.index n q))
      → (n q : ℕ) → watch_noted index n q ≡ cond (eqb q id) (watch_of w n) (watch_noted a.index n q)
  noted-dropped number w e index cut n q =
      cut n q
      ∙ elim (eqb q id) as (λ t. eqb q id ≡ t
      → cond (eqb n number && t) None (watch_noted a.index n q) ≡ cond t (watch_of w n) (watch_noted a.index n q)) [
        | true ↦
            λ t. ap (λ x. cond (eqb n number && true) None x) (here n q t) ∙ both (eqb n number) None (watch_of i.watches n)
            ∙ sym (watched-dropped i.watches number n) ∙ ap (λ x. watch_of x n) (sym e)
        | false ↦ λ t. alone (eqb n number) None (watch_noted a.index n q)
      ] refl

  -- nothing has changed
  pub noted-same : (w : Watching) → w ≡ i.watches → (index : Index)
      → ((n q : ℕ) → watch_noted index n q ≡ watch_noted a.index n q) → (n q : ℕ)
      → watch_noted index n q ≡ cond (eqb q id) (watch_of w n) (watch_noted a.index n q)
  noted-same w e index same n q =
      same n q
      ∙ elim (eqb q id) as (λ t. eqb q id ≡ t → watch_noted a.index n q ≡ cond t (watch_of w n) (watch_noted a.index n q)) [
        | true ↦ λ t. here n q t ∙ ap (λ x. watch_of x n) (sym e)
        | false ↦ λ t. refl
      ] refl

  -- a file is watched
  noted-added : (number mask : ℕ) (w : Watching) → w ≡ added i.watches number mask → (index : Index)
      → ((n q : ℕ) → watch_noted index n q ≡ cond (eqb n number && eqb q id) (watch_of w number) (watch_noted a.index n q))
      → (n q : ℕ) → watch_noted index n q ≡ cond (eqb q id) (watch_of w n) (watch_noted a.index n q)
  noted-added number mask w e index put n q =
      put n q
      ∙ elim (eqb q id) as (λ t. eqb q id ≡ t
      → cond (eqb n number && t) (watch_of w number) (watch_noted a.index n q) ≡ cond t (watch_of w n) (watch_noted a.index n q)) [
        | true ↦
            λ t. ap (λ x. cond (eqb n number && true) (watch_of w number) x) (here n q t)
            ∙ both (eqb n number) (watch_of w number) (watch_of i.watches n)
            ∙ ap (λ x. cond (eqb n number) (watch_of x number) (watch_of i.watches n)) e
            ∙ sym (watched-added i.watches number mask n) ∙ ap (λ x. watch_of x n) (sym e)
        | false ↦ λ t. alone (eqb n number) (watch_of w number) (watch_noted a.index n q)
      ] refl

  -- a file was to be watched
  pub noted-after : (number mask : ℕ) (w : Watching) (index : Index) (r : Result ℤ Refusal)
      → OnOk r (w ≡ added i.watches number mask)
      → OnOk r ((n q : ℕ) → watch_noted index n q ≡ cond (eqb n number && eqb q id) (watch_of w number) (watch_noted a.index n q))
      → OnErr r (w ≡ i.watches) → OnErr r ((n q : ℕ) → watch_noted index n q ≡ watch_noted a.index n q)
      → (n q : ℕ) → watch_noted index n q ≡ cond (eqb q id) (watch_of w n) (watch_noted a.index n q)
  noted-after number mask w index (Ok wd) e put f same = noted-added number mask w e index put
  noted-after number mask w index (Err r) e put f same = noted-same w f index same

-- ---- the fields

module _ (a b : Inside) (whole : NotesEveryWatch a) (rising : IsStrictlySortedBy nat_cmp (ids_of b.opened.items)) (rows : HasSoundRows b.index) where
  -- one instance has changed
  module _ (id : ℕ) (i j : Instance) (was : instance_of (instances_of a) id ≡ Some i)
      (put : instances_of b ≡ map.insert (instances_of a) id j) (events : AreEvents j.queue.waiting) where
    -- its watches have changed as the index has
    pub IsIndexed-changed : ((n q : ℕ) → watch_noted b.index n q ≡ cond (eqb q id) (watch_of j.watches n) (watch_noted a.index n q)) → NotesEveryWatch b
    IsIndexed-changed noted = record {
      rows = rows;
      rising = rising;
      noted = λ n q.
          noted n q ∙ ap (cond (eqb q id) (watch_of j.watches n)) (whole.noted n q)
          ∙ sym (ap (λ x. watch_at n (instance_of x q)) put ∙ watched-put (instances_of a) id j n q);
      records = subst WaitingAreEvents (sym put) (waiting-put (instances_of a) id j whole.records events);
    }

    -- it watches the same files
    pub IsIndexed-kept : b.index ≡ a.index → j.watches ≡ i.watches → NotesEveryWatch b
    IsIndexed-kept index same = IsIndexed-changed (noted-same a whole id i was j.watches same b.index (λ n q. ap (λ x. watch_noted x n q) index))

  -- a new instance, which watches nothing
  pub IsIndexed-new : (id : ℕ) (i : Instance) → instances_of b ≡ map.insert (instances_of a) id i → instance_of (instances_of a) id ≡ None
      → ((n : ℕ) → watch_of i.watches n ≡ None) → AreEvents i.queue.waiting → b.index ≡ a.index → NotesEveryWatch b
  IsIndexed-new id i put free none events index = record {
    rows = rows;
    rising = rising;
    noted = λ n q.
        ap (λ x. watch_noted x n q) index ∙ whole.noted n q
        ∙ sym (ap (λ x. watch_at n (instance_of x q)) put ∙ watched-put (instances_of a) id i n q
        ∙ elim (eqb q id) as (λ t. eqb q id ≡ t
        → cond t (watch_of i.watches n) (watch_at n (instance_of (instances_of a) q)) ≡ watch_at n (instance_of (instances_of a) q)) [
          | true ↦ λ t. none n ∙ ap (watch_at n) (sym free) ∙ ap (λ x. watch_at n (instance_of (instances_of a) x)) (sym (is-same q id t))
          | false ↦ λ t. refl
        ] refl);
    records = subst WaitingAreEvents (sym put) (waiting-put (instances_of a) id i whole.records events);
  }

  -- an instance less, which the index forgets
  pub IsIndexed-closed : (id : ℕ) (i : Instance) → instances_of b ≡ map.remove (instances_of a) id → instance_of (instances_of a) id ≡ Some i
      → ((n q : ℕ) → watch_noted b.index n q ≡ cond (is_some (watch_of i.watches n) && eqb q id) None (watch_noted a.index n q)) → NotesEveryWatch b
  IsIndexed-closed id i cut was forgotten = record {
    rows = rows;
    rising = rising;
    noted = λ n q.
        forgotten n q
        ∙ ap (cond (is_some (watch_of i.watches n) && eqb q id) None) (whole.noted n q)
        ∙ elim (eqb q id) as (λ t. eqb q id ≡ t
        → cond (is_some (watch_of i.watches n) && t) None (watch_at n (instance_of (instances_of a) q))
        ≡ cond t None (watch_at n (instance_of (instances_of a) q))) [
          | true ↦ λ t.
              let here : watch_at n (instance_of (instances_of a) q) ≡ watch_of i.watches n =
              ap (λ x. watch_at n (instance_of (instances_of a) x)) (is-same q id t) ∙ ap (watch_at n) was in
              ap (λ x. cond (is_some (watch_of i.watches n) && true) None x) here ∙ off (watch_of i.watches n)
          | false ↦ λ t. alone (is_some (watch_of i.watches n)) None (watch_at n (instance_of (instances_of a) q))
        ] refl
        ∙ sym (ap (λ x. watch_at n (instance_of x q)) cut ∙ watched-cut (instances_of a) id n q);
    records = subst WaitingAreEvents (sym cut) (waiting-cut (instances_of a) id whole.records);
  }
    where
      off : (o : Option Watch) → cond (is_some o && true) None o ≡ None
      off None = refl
      off (Some x) = refl

-- ---- the entries of the map are the rows

pub entries-opened : (a : Inside) → NotesEveryWatch a
    → map.entries (instances_of a) ≡ Rattle.std.proofs.Common.map (λ (o : Opened). (o.id, o.instance)) a.opened.items
entries-opened a whole = entries-rising (λ (o : Opened). o.id) (λ (o : Opened). o.instance) a.opened.items whole.rising

-- ---- the instance of a number, at its index

module _ (a : Inside) (whole : NotesEveryWatch a) (id : ℕ) (seen : List Opened) (is : seen ≡ a.opened.items) where
  -- none is there
  pub absent : (i : ℕ) → IsIndex (ids_of seen) id (Err i) → instance_of (instances_of a) id ≡ None
  absent i slot = subst (λ rows. instance_of (by_number rows) id ≡ None) is (get-absent (λ (o : Opened). o.id) (λ (o : Opened). o.instance) seen i id slot)

  -- so nothing changes, and there is nothing to close
  pub nothing-closed : (i : ℕ) → IsIndex (ids_of seen) id (Err i) → (m : Instances) → instances_of a ≡ m → m ≡ map.remove m id
  nothing-closed i slot m view = sym (cut-absent m id (ap (λ x. instance_of x id) (sym view) ∙ absent i slot))

  pub unchanged : (i : ℕ) → IsIndex (ids_of seen) id (Err i) → (m : Instances) → instances_of a ≡ m → (change : Instance → Instance) → m ≡ changed m id change
  unchanged i slot m view change = sym (changed-none m id change (ap (λ x. instance_of x id) (sym view) ∙ absent i slot))

  module _ (slot : ℕ) (at : IsIndex (ids_of seen) id (Ok slot)) where
    at-rows : IsIndex (ids_of a.opened.items) id (Ok slot)
    at-rows = subst (λ rows. IsIndex (ids_of rows) id (Ok slot)) is at

    pub taken : instance_of (instances_of a) id ≡ None → ⊥
    taken = some-at a.opened.items id slot whole.rising at-rows

    module _ (row : Opened) (e : row ≡ get_or a.opened.items slot row) where
      pub there : instance_of (instances_of a) id ≡ Some row.instance
      there = instance-at a.opened.items id slot whole.rising at-rows row e

      module _ (j : Instance) where
        abbrev with_instance : Inside
        with_instance = record a { opened = with_item a.opened slot (record row { instance = j }) }

        same-number : row.id ≡ id
        same-number = number-at a.opened.items id slot whole.rising at-rows row e

        pub put : instances_of with_instance ≡ map.insert (instances_of a) id j
        put = rows-set a.opened.items id slot whole.rising at-rows (record row { instance = j }) same-number

        still-rising : IsStrictlySortedBy nat_cmp (ids_of with_instance.opened.items)
        still-rising = numbers-set a.opened.items id slot whole.rising at-rows (record row { instance = j }) same-number

        -- the instances after a change of it
        pub instances_of-changed : (m : Instances) → instances_of a ≡ m → (change : Instance → Instance) → change row.instance ≡ j
            → instances_of with_instance ≡ changed m id change
        instances_of-changed m view change e =
            put ∙ ap (map.insert (instances_of a) id) (sym e) ∙ sym (changed-there (instances_of a) id change row.instance there)
            ∙ ap (λ x. changed x id change) view

        -- it watches the same files
        pub NotesEveryWatch-kept : j.watches ≡ row.instance.watches → AreEvents j.queue.waiting → NotesEveryWatch with_instance
        NotesEveryWatch-kept same events = IsIndexed-kept a with_instance whole still-rising whole.rows id row.instance j there put events refl same

        -- its watches change as the index does
        pub NotesEveryWatch-changed : (index : Index)
            → ((n q : ℕ) → watch_noted index n q ≡ cond (eqb q id) (watch_of j.watches n) (watch_noted a.index n q))
            → HasSoundRows index → j.queue ≡ row.instance.queue
            → NotesEveryWatch (record with_instance { index = index })
        NotesEveryWatch-changed index noted rows queue =
            IsIndexed-changed a (record with_instance { index = index }) whole still-rising rows id row.instance j there put
            (subst (λ (q : Backlog). AreEvents q.waiting) (sym queue) (events-at a whole id row.instance there)) noted

  -- a new one, at its index
  module _ (i : ℕ) (slot : IsIndex (ids_of seen) id (Err i)) (j : Instance) (b : Inside)
      (with : b.opened.items ≡ take i a.opened.items ++ record { id = id; instance = j } ∷ drop i a.opened.items) where
    free-slot : IsIndex (ids_of a.opened.items) id (Err i)
    free-slot = subst (λ rows. IsIndex (ids_of rows) id (Err i)) is slot

    pub instances_of-new : instances_of b ≡ map.insert (instances_of a) id j
    instances_of-new =
        ap by_number with ∙ map-put (λ (o : Opened). o.id) (λ (o : Opened). o.instance) a.opened.items i (record { id = id; instance = j }) free-slot

    pub NotesEveryWatch-new : b.index ≡ a.index → ((n : ℕ) → watch_of j.watches n ≡ None) → AreEvents j.queue.waiting → NotesEveryWatch b
    NotesEveryWatch-new index none events =
        IsIndexed-new a b whole
        (subst (λ rows. IsStrictlySortedBy nat_cmp (ids_of rows)) (sym with)
        (rises-put (λ (o : Opened). o.id) (λ (o : Opened). o.instance) a.opened.items i (record { id = id; instance = j }) whole.rising free-slot))
        (subst HasSoundRows (sym index) whole.rows) id j instances_of-new (absent i slot) none events index

  -- one less
  module _ (slot : ℕ) (at : IsIndex (ids_of seen) id (Ok slot)) (b : Inside)
      (cut : b.opened.items ≡ take slot a.opened.items ++ drop (suc slot) a.opened.items) where
    pub instances_of-closed : (m : Instances) → instances_of a ≡ m → instances_of b ≡ map.remove m id
    instances_of-closed m view = ap by_number cut ∙ rows-cut a.opened.items id slot whole.rising (at-rows slot at) ∙ ap (λ x. map.remove x id) view

    pub NotesEveryWatch-closed : (row : Opened) → row ≡ get_or a.opened.items slot row
        → ((n q : ℕ) → watch_noted b.index n q ≡ cond (is_some (watch_of row.instance.watches n) && eqb q id) None (watch_noted a.index n q))
        → HasSoundRows b.index → NotesEveryWatch b
    NotesEveryWatch-closed row e forgotten rows =
        IsIndexed-closed a b whole
        (subst (λ rows. IsStrictlySortedBy nat_cmp (ids_of rows)) (sym cut)
        (rises-cut (λ (o : Opened). o.id) (λ (o : Opened). o.instance) a.opened.items slot whole.rising))
        rows id row.instance (instances_of-closed (instances_of a) refl) (there slot at row e) forgotten

-- the same rows
pub NotesEveryWatch-same : (a b : Inside) → NotesEveryWatch a → b.opened.items ≡ a.opened.items → b.index ≡ a.index → NotesEveryWatch b
NotesEveryWatch-same a b whole rows index = record {
  noted = λ n q. ap (λ x. watch_noted x n q) index ∙ whole.noted n q ∙ sym (ap (λ os. watch_at n (instance_of (by_number os) q)) rows);
  rows = subst HasSoundRows (sym index) whole.rows;
  records = subst (λ os. WaitingAreEvents (by_number os)) (sym rows) whole.records;
  rising = subst (λ os. IsStrictlySortedBy nat_cmp (ids_of os)) (sym rows) whole.rising;
}

-- two changes of one instance, one after the other
pub changed-twice : (m : Instances) (id : ℕ) (first second both : Instance → Instance)
    → ((i : Instance) → second (first i) ≡ both i) → changed (changed m id first) id second ≡ changed m id both
changed-twice m id first second both is =
    elim (instance_of m id) as (λ o. instance_of m id ≡ o → changed (changed m id first) id second ≡ changed m id both) [
      | None ↦ λ e. ap (λ x. changed x id second) (changed-none m id first e) ∙ changed-none m id second e ∙ sym (changed-none m id both e)
      | Some i ↦ λ e.
          let once : changed m id first ≡ map.insert m id (first i) = changed-there m id first i e in
          let here : instance_of (map.insert m id (first i)) id ≡ Some (first i) =
          get-put m id (first i) id ∙ ap (λ t. cond t (Some (first i)) (instance_of m id)) (Rattle.std.proofs.lemmas.Bool.eq-eqb id id refl) in
          ap (λ x. changed x id second) once ∙ changed-there (map.insert m id (first i)) id second (first i) here ∙ put-twice m id (first i) (second (first i))
          ∙ ap (map.insert m id) (is i) ∙ sym (changed-there m id both i e)
    ] refl
  where
    put-twice : (m : Instances) (id : ℕ) (i j : Instance) → map.insert (map.insert m id i) id j ≡ map.insert m id j
    put-twice m id i j =
        same_map nat_cmp_total nat_cmp-IsAntisymmetric _ _ (λ q.
        get-put (map.insert m id i) id j q ∙ ap (cond (eqb q id) (Some j)) (get-put m id i q)
        ∙ twice (eqb q id) (Some j) (Some i) (instance_of m q) ∙ sym (get-put m id j q))
      where
        twice : (t : Bool) (x y z : Option Instance) → cond t x (cond t y z) ≡ cond t x z
        twice true x y z = refl
        twice false x y z = refl

pub changed-not : (m : Instances) (id : ℕ) → changed m id (λ i. i) ≡ m
changed-not m id =
    elim (instance_of m id) as (λ o. instance_of m id ≡ o → changed m id (λ i. i) ≡ m) [
      | None ↦ λ e. changed-none m id (λ i. i) e
      | Some i ↦ λ e. changed-there m id (λ i. i) i e ∙ put-same m id i e
    ] refl
