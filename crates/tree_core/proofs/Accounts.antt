-- What becomes of the events that are raised for an instance.
use Rattle.std.proofs.Common.{◌≡◌, ℕ, suc, ◌+◌, Bool, true, false, not, cond, if◌then◌else◌, ◌==◌, List, [], ◌∷◌, ◌++◌}
use Rattle.std.proofs.Common.{length, Option, Some, None, refl, sym, ap, subst, ◌∙◌, arith}
use Rattle.std.proofs.lemmas.Bool.{eqb-true}
use Rattle.std.proofs.lemmas.List.Elements.{All-nil, All-append, All-cons, All-head, All-tail, All-weaker}
use Rattle.std.proofs.lemmas.List.Sums.{sum_by-cons}
use Rattle.std.specs.Prelude.{ℤ, pos, negsuc, ◌≤ℤ◌, ◌↔◌, All, is_none, count_by}
use Rattle.std.specs.List.{filter}
use Rattle.record_codec.specs.declared.event.Event.{Event}
use Rattle.tree_paths.specs.Rows.{row, first_row}
use Rattle.tree_paths.specs.declared.refusal.Refusal.{Refusal}
use Rattle.tree_paths.specs.declared.refusal.Refusal.TheVariants.{Einval}
use Rattle.watch_table.specs.Watching.{Watching, IsSound, watched_by, wd_of}
use Rattle.event_queue.specs.declared.offered.Offered.{Offered}
use Rattle.event_queue.specs.declared.offered.Offered.TheVariants.{Kept, Merged, Marked, Lost}
use Rattle.event_queue.specs.Backlogs.{Backlog, is_mark, overflow_mark, offered, joining, after_offer}
use Rattle.event_queue.specs.Fates.{HasFate}
use Rattle.event_queue.proofs.EventLemmas.{is_mark-Decides}
use Rattle.event_queue.proofs.OfferLemmas.{is_mark-mark}
use Rattle.event_rules.specs.declared.notice.Notice.{Notice}
use Rattle.event_rules.specs.Laws.{HasWatch}
use Rattle.event_rules.specs.Raised.{events_of, ignored}
use Rattle.event_rules.specs.Table.{notices_of}
use Rattle.instance_table.specs.declared.instance.Instance.{Instance}
use Rattle.instance_table.specs.Instances.{instance_of}
use Rattle.tree_core.specs.declared.call.Call.{Call}
use Rattle.tree_core.specs.declared.call.Call.TheVariants as call
use Rattle.tree_core.specs.declared.reply.Entry.{Entry}
use Rattle.tree_core.specs.Tree.{Tree, cookie_now, refusal_of, rm_watch_rows, after}
use Rattle.tree_core.specs.Histories.{Raised, where_open, events_for, raised_to, raised_by, raised_in, fate, is_keeping}
use Rattle.tree_core.specs.Histories.{is_merging, is_losing, events, joined}
use Rattle.tree_core.specs.QueueLaws.{EventsAreAccountedFor}
use Rattle.tree_core.proofs.SoundWatches.{WatchLaws, HasSoundWatches, WatchesAreSound, WatchesAreSound-after}
use Rattle.tree_core.proofs.SoundTrees.{sound-watches}

-- ---- of any events

abbrev pub FateLaw : Type 0
FateLaw = (b : Backlog) (e : Event) → HasFate b e (offered b.limit b.waiting e)

have-fates : FateLaw → (rs : List Raised) → All (λ r. HasFate r.queue r.event (fate r)) rs
have-fates law [] = All-nil (λ (r : Raised). HasFate r.queue r.event (fate r))
have-fates law (r ∷ rs) = All-cons (λ (r : Raised). HasFate r.queue r.event (fate r)) r rs (law r.queue r.event) (have-fates law rs)

-- one more of one of three kinds
counted-more : (o : Offered) (n k m l : ℕ) → n ≡ k + (m + l)
    → suc n ≡ cond (is_keeping o) 1 0 + k + (cond (is_merging o) 1 0 + m + (cond (is_losing o) 1 0 + l))
counted-more Kept n k m l e = omega arith
counted-more Merged n k m l e = omega arith
counted-more Marked n k m l e = omega arith
counted-more Lost n k m l e = omega arith

count-cons : (p : Offered → Bool) (r : Raised) (rs : List Raised) → count_by (λ x. p (fate x)) (r ∷ rs) ≡ cond (p (fate r)) 1 0 + count_by (λ x. p (fate x)) rs
count-cons p r rs = sum_by-cons (λ (x : Raised). cond (p (fate x)) 1 0) r rs

are-counted : (rs : List Raised)
    → length rs ≡ count_by (λ r. is_keeping (fate r)) rs + (count_by (λ r. is_merging (fate r)) rs + count_by (λ r. is_losing (fate r)) rs)
are-counted [] = refl
are-counted (r ∷ rs) =
    counted-more (fate r) (length rs) (count_by (λ x. is_keeping (fate x)) rs) (count_by (λ x. is_merging (fate x)) rs)
    (count_by (λ x. is_losing (fate x)) rs) (are-counted rs)
    ∙ sym (λ i. count-cons is_keeping r rs i + (count-cons is_merging r rs i + count-cons is_losing r rs i))

-- ---- of events that are no marks

abbrev IsNoMark : Event → Type 0
IsNoMark e = is_mark e ≡ false

abbrev AreNoMarks : List Raised → Type 0
AreNoMarks rs = All (λ r. IsNoMark r.event) rs

-- the events that were kept
abbrev kept : List Raised → List Event
kept rs = events (filter (λ r. is_keeping (fate r)) rs)

abbrev unmarked : List Event → List Event
unmarked es = filter (λ e. not (is_mark e)) es

module _ (r : Raised) (rs : List Raised) (plain : IsNoMark r.event) (rest : unmarked (joined rs) ≡ kept rs) where
  kept-more : (o : Offered)
      → unmarked (joining o r.event ++ joined rs)
      ≡ events (cond (is_keeping o) (r ∷ filter (λ x. is_keeping (fate x)) rs) (filter (λ x. is_keeping (fate x)) rs))
  kept-more Kept = ap (λ b. cond (not b) (r.event ∷ unmarked (joined rs)) (unmarked (joined rs))) plain ∙ ap (λ (es : List Event). r.event ∷ es) rest
  kept-more Merged = rest
  kept-more Marked = ap (λ b. cond (not b) (overflow_mark ∷ unmarked (joined rs)) (unmarked (joined rs))) is_mark-mark ∙ rest
  kept-more Lost = rest

are-in-order : (rs : List Raised) → AreNoMarks rs → unmarked (joined rs) ≡ kept rs
are-in-order [] plain = refl
are-in-order (r ∷ rs) plain =
    kept-more r rs (All-head (λ (x : Raised). IsNoMark x.event) r rs plain)
    (are-in-order rs (All-tail (λ (x : Raised). IsNoMark x.event) r rs plain)) (fate r)

-- ---- of events that watches raise

-- the laws that make each event one of a watch
pub record RaisedLaws : Type 0 where
  pub watches : WatchLaws
  pub events : (w : Watching) (ns : List Notice) → All (λ e. HasWatch w e.wd) (events_of w ns)
  pub tells : (w : Watching) (wd : ℤ) (number : ℕ) → IsSound w → (watched_by w wd ≡ Some number) ↔ (wd_of w number ≡ Some wd)

mark-wd : overflow_mark.wd ≡ negsuc 0
unfolding overflow_mark
mark-wd = refl

no-mark : (e : Event) → pos 1 ≤ℤ e.wd → IsNoMark e
no-mark e h = by (is_mark e) refl
  where
    by : (b : Bool) → is_mark e ≡ b → b ≡ false
    by true m =
        let wd : e.wd ≡ negsuc 0 = ap (λ (x : Event). x.wd) ((is_mark-Decides e).0 m) ∙ mark-wd in
        let low : pos 1 ≤ℤ negsuc 0 = subst (λ z. pos 1 ≤ℤ z) wd h in
        absurd (omega arith)
    by false m = refl

of-watch : (w : Watching) → IsSound w → (e : Event) → HasWatch w e.wd → IsNoMark e
of-watch w sound e has = no-mark e (sound.given has.0 e.wd has.1).0

has-number : (o : Option ℕ) → first_row (row (is_none o) Einval ∷ []) ≡ None → (n : ℕ) × (o ≡ Some n)
has-number None e = absurd (cc)
has-number (Some n) e = (n, refl)

module _ (laws : RaisedLaws) (t : Tree) (id : ℕ) (i : Instance) (is : instance_of t.instances id ≡ Some i) (sound : IsSound i.watches) where
  ended : (wd : ℤ) → first_row (rm_watch_rows wd (Some i)) ≡ None → HasWatch i.watches wd
  unfolding rm_watch_rows
  ended wd e = let found = has-number (watched_by i.watches wd) e in (found.0, (laws.tells i.watches wd found.0 sound).0 found.1)

  abbrev IsWatched : Event → Type 0
  IsWatched e = HasWatch i.watches e.wd

  ignored-watched : (from : ℕ) (wd : ℤ) (b : Bool) → (from == id) ≡ b → refusal_of t (call.RmWatch from wd) ≡ None
      → All IsWatched (if b then ignored wd ∷ [] else [])
  ignored-watched from wd true same e =
      let there : instance_of t.instances from ≡ Some i = ap (instance_of t.instances) (eqb-true from id same) ∙ is in
      All-cons IsWatched (ignored wd) [] (ended wd (ap (λ (o : Option Instance). first_row (rm_watch_rows wd o)) (sym there) ∙ e)) (All-nil IsWatched)
  ignored-watched from wd false same e = All-nil IsWatched

  -- each event of an accepted call is of a watch that the instance has
  pub events-watched : (c : Call) → refusal_of t c ≡ None → All IsWatched (events_for t c id i)
  events-watched (call.File f) e = laws.events i.watches (notices_of t.world f (cookie_now t.next_cookie))
  events-watched (call.Init limit is_piped) e = All-nil IsWatched
  events-watched (call.AddWatch from p mask) e = All-nil IsWatched
  events-watched (call.RmWatch from wd) e = ignored-watched from wd (from == id) refl e
  events-watched (call.Read from bytes) e = All-nil IsWatched
  events-watched (call.Pump from bytes) e = All-nil IsWatched
  events-watched (call.Close from) e = All-nil IsWatched

  events-plain : (c : Call) → refusal_of t c ≡ None → All IsNoMark (events_for t c id i)
  events-plain c e = All-weaker IsWatched IsNoMark (of-watch i.watches sound) (events_for t c id i) (events-watched c e)

raised_to-plain : (b : Backlog) (es : List Event) → All IsNoMark es → AreNoMarks (raised_to b es)
raised_to-plain b [] h = All-nil (λ (r : Raised). IsNoMark r.event)
raised_to-plain b (e ∷ es) h =
    All-cons (λ (r : Raised). IsNoMark r.event) (record { queue = b; event = e }) (raised_to (after_offer b e) es)
    (All-head IsNoMark e es h) (raised_to-plain (after_offer b e) es (All-tail IsNoMark e es h))

module _ (laws : RaisedLaws) (id : ℕ) where
  plain-by : (t : Tree) (c : Call) (r : Option Refusal) (o : Option Instance) → refusal_of t c ≡ r → instance_of t.instances id ≡ o → HasSoundWatches o
      → AreNoMarks (where_open r o (λ i. raised_to i.queue (events_for t c id i)))
  plain-by t c (Some r) o e is sound = All-nil (λ (r : Raised). IsNoMark r.event)
  plain-by t c None None e is sound = All-nil (λ (r : Raised). IsNoMark r.event)
  plain-by t c None (Some i) e is sound = raised_to-plain i.queue (events_for t c id i) (events-plain laws t id i is sound c e)

  raised_by-plain : (t : Tree) (c : Call) → WatchesAreSound t → AreNoMarks (raised_by t c id)
  unfolding raised_by
  raised_by-plain t c sound = plain-by t c (refusal_of t c) (instance_of t.instances id) refl refl (sound id)

  -- no event of a journal is a mark
  pub raised_in-plain : (t : Tree) (es : List Entry) → WatchesAreSound t → AreNoMarks (raised_in t es id)
  raised_in-plain t [] sound = All-nil (λ (r : Raised). IsNoMark r.event)
  raised_in-plain t (e ∷ es) sound =
      All-append (λ (r : Raised). IsNoMark r.event) (raised_by t e.call id) (raised_in (after t e.call) es id) (raised_by-plain t e.call sound)
      (raised_in-plain (after t e.call) es (WatchesAreSound-after laws.watches t e.call sound))

pub events_are_accounted_for : FateLaw → RaisedLaws → EventsAreAccountedFor
events_are_accounted_for law laws t es id sound =
    let rs : List Raised = raised_in t es id in
    record { fates = have-fates law rs; count = are-counted rs; order = are-in-order rs (raised_in-plain laws id t es (sound-watches t sound)) }
