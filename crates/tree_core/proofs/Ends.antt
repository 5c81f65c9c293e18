-- Nothing of a watch follows its end, along a journal, and its descriptor is not given again.
use Rattle.std.proofs.Common.{◌≡◌, ◌≢◌, ◌↔◌, ℕ, ◌+◌, ◌<◌, ◌==◌, Bool, true, false, cond, eqb, if◌then◌else◌, IsTrue}
use Rattle.std.proofs.Common.{List, [], ◌∷◌, ◌++◌, Option, Some, None, is_none, is_some, refl, sym, ap, ◌∙◌, subst}
use Rattle.std.proofs.Common.{arith}
use Rattle.std.specs.Prelude.{ℤ, pos, ◌<ℤ◌, All, IsSome, filter, map, option_map}
use Rattle.std.proofs.lemmas.Bool.{eqb-true}
use Rattle.std.proofs.lemmas.Int.{ints}
use Rattle.std.proofs.lemmas.List.{map-append}
use Rattle.std.proofs.lemmas.List.Elements.{All-nil, All-append, All-cons, All-map, All-same, All-weaker}
use Rattle.record_codec.specs.declared.event.Event.{Event}
use Rattle.tree_paths.specs.Rows.{row, first_row}
use Rattle.tree_paths.specs.declared.refusal.Refusal.{Refusal}
use Rattle.tree_paths.specs.declared.refusal.Refusal.TheVariants.{Einval}
use Rattle.inode_table.specs.World.{look}
use Rattle.watch_table.specs.Masks.{known}
use Rattle.watch_table.specs.declared.watch.Watch.{Watch}
use Rattle.watch_table.specs.Watching.{HasEnded, IsSound, Watching, added, watched_by, removed, watch_of, wd_added, wd_of}
use Rattle.watch_table.proofs.Watched.{wd_or}
use Rattle.event_rules.specs.declared.notice.Notice.{Notice}
use Rattle.event_rules.specs.Raised.{events_of, ignored, watches_after, wds_ended}
use Rattle.event_rules.specs.Laws.{TellsNothing, says_ended}
use Rattle.event_rules.specs.Table.{notices_of}
use Rattle.instance_table.specs.declared.instance.Instance.{Instance}
use Rattle.instance_table.specs.Instances.{instance_of, new_instance, told, unwatching, waiting_of, watching}
use Rattle.tree_core.specs.declared.call.Call.{Call}
use Rattle.tree_core.specs.declared.call.Call.TheVariants as call
use Rattle.tree_core.specs.declared.reply.Entry.{Entry}
use Rattle.tree_core.specs.declared.reply.Reply.{Reply}
use Rattle.tree_core.specs.Histories.{Raised, raised_to, raised_by, raised_in, events, events_for, joined, where_open}
use Rattle.tree_core.specs.Journal.{IsLawfulFrom}
use Rattle.tree_core.specs.Sound.{IsSoundTree}
use Rattle.tree_core.specs.Tree.{Tree, cookie_now, rm_watch_rows, refusal_of, after_file}
use Rattle.tree_core.specs.Tree.{accepted, reply_of, after}
use Rattle.tree_core.specs.TurnLaws.{WatchesEndOnce, wd_in, wds_of, wds_given, DescriptorsEndForGood}
use Rattle.tree_core.proofs.Parts.{after_reading, tree_by, watch_answer, reply_by, number_seen}
use Rattle.tree_core.proofs.Cookies.{events-raised_to}
use Rattle.tree_core.proofs.Counted.{first-passes, row-passes}
use Rattle.tree_core.proofs.Opened.{eqb-other, eqb-swap, left_of, instance_of-accepted}
use Rattle.tree_core.proofs.Quiet.{Quiet, Quiet-from, Quiet-append, Ends, All-unfiltered, IsGiven, EndsOnce-Quiet, joined-silent}
use Rattle.tree_core.proofs.SoundTrees.{sound-watches}
use Rattle.tree_core.proofs.SoundWatches.{WatchLaws, HasSoundWatches, WatchesAreSound, WatchesAreSound-after}
use Rattle.tree_core.proofs.Untouched.{next-after}

-- the laws of the crates of watches and of events, on watches that end
pub record EndLaws : Type 0 where
  pub sound : WatchLaws
  pub tells : (w : Watching) (wd : ℤ) (number : ℕ) → IsSound w → (watched_by w wd ≡ Some number) ↔ (wd_of w number ≡ Some wd)
  pub ends : (w : Watching) (wd : ℤ) (number : ℕ) → IsSound w → watched_by w wd ≡ Some number → HasEnded (removed w wd) wd
  pub after_added : (w : Watching) (wd : ℤ) (number mask : ℕ) → HasEnded w wd → HasEnded (added w number mask) wd
  pub after_removed : (w : Watching) (wd other : ℤ) → HasEnded w wd → HasEnded (removed w other) wd
  pub said : (w : Watching) (ns : List Notice) → filter says_ended (events_of w ns) ≡ map ignored (wds_ended w ns)
  pub here : (w : Watching) (ns : List Notice) (before after : List Event) (e : Event) → IsSound w
      → events_of w ns ≡ before ++ e ∷ after → IsTrue (says_ended e) → TellsNothing e.wd after
  pub left : (w : Watching) (ns : List Notice) → IsSound w → All (HasEnded (watches_after w ns)) (wds_ended w ns)
  pub later : (w : Watching) (ns : List Notice) (wd : ℤ) → IsSound w → HasEnded w wd → TellsNothing wd (events_of w ns)
  pub ever : (w : Watching) (ns : List Notice) (wd : ℤ) → HasEnded w wd → HasEnded (watches_after w ns) wd

-- ---- numbers of open instances are behind the next one

abbrev pub AreBelow : Tree → Type 0
AreBelow t = (id : ℕ) → IsSome (instance_of t.instances id) → id < t.next_id

some-before : (b : Bool) (change : Instance → Instance) (o : Option Instance) → IsSome (cond b (option_map change o) o) → IsSome o
some-before true change None h = absurd (cc)
some-before true change (Some i) h = refl
some-before false change o h = h

some-uncut : (b : Bool) (o : Option Instance) → IsSome (cond b None o) → IsSome o
some-uncut true o h = absurd (cc)
some-uncut false o h = h

left-below : (t : Tree) (c : Call) (id : ℕ) (o : Option Instance) → (IsSome o → id < t.next_id) → IsSome (left_of t c id o) → id < (accepted t c).next_id
unfolding after_file
left-below t (call.File f) id o h there = h (some-before true (told (notices_of t.world f (cookie_now t.next_cookie))) o there)
left-below t (call.Init limit is_piped) id o h there = by (eqb id t.next_id) refl there
  where
    by : (b : Bool) → eqb id t.next_id ≡ b → IsSome (cond b (Some (new_instance t.limits limit is_piped)) o) → id < t.next_id + 1
    by true is k = let same : id ≡ t.next_id = eqb-true id t.next_id is in omega arith
    by false is k = let below : id < t.next_id = h k in omega arith
left-below t (call.AddWatch from p mask) id o h there = h (some-before (eqb id from) (watching (number_seen (look t.world p)) (known mask)) o there)
left-below t (call.RmWatch from wd) id o h there = h (some-before (eqb id from) (unwatching wd) o there)
left-below t (call.Read from bytes) id o h there = h (some-before (eqb id from) (after_reading bytes) o there)
left-below t (call.Pump from bytes) id o h there = h (some-before (eqb id from) (after_reading bytes) o there)
left-below t (call.Close from) id o h there = h (some-uncut (eqb id from) o there)

below-by : (t : Tree) (c : Call) (o : Option Refusal) → AreBelow t → AreBelow (tree_by o t (accepted t c))
below-by t c (Some r) below = below
below-by t c None below = λ id there. left-below t c id (instance_of t.instances id) (below id) (subst IsSome (instance_of-accepted t c id) there)

AreBelow-after : (t : Tree) (c : Call) → AreBelow t → AreBelow (after t c)
AreBelow-after t c below = below-by t c (refusal_of t c) below

-- ---- a descriptor whose watch has ended

-- its watch has ended, or the instance is closed
abbrev pub OverIn : ℤ → Option Instance → Type 0
OverIn wd None = IsGiven wd
OverIn wd (Some i) = HasEnded i.watches wd

pub record IsOver (t : Tree) (id : ℕ) (wd : ℤ) : Type 0 where
  pub made : id < t.next_id
  pub over : OverIn wd (instance_of t.instances id)

-- after a call that is accepted where the instance is open
abbrev OverLeft : Tree → Call → ℕ → Instance → ℤ → Type 0
OverLeft t c id i wd = OverIn wd (left_of t c id (Some i))

pub over-given : (wd : ℤ) (o : Option Instance) → OverIn wd o → IsGiven wd
over-given wd None h = h
over-given wd (Some i) h = h.given.0

over-if : (wd : ℤ) (b : Bool) (change : Instance → Instance)
    → ((i : Instance) → HasEnded i.watches wd → HasEnded (change i).watches wd) → (o : Option Instance) → OverIn wd o
    → OverIn wd (cond b (option_map change o) o)
over-if wd true change keeps None h = h
over-if wd true change keeps (Some i) h = keeps i h
over-if wd false change keeps o h = h

over-cut : (wd : ℤ) (b : Bool) (o : Option Instance) → OverIn wd o → OverIn wd (cond b None o)
over-cut wd true o h = over-given wd o h
over-cut wd false o h = h

-- an accepted call to end a watch has one
rm-watched : (wd : ℤ) (i : Instance) → first_row (rm_watch_rows wd (Some i)) ≡ None → (number : ℕ) × (watched_by i.watches wd ≡ Some number)
unfolding rm_watch_rows
rm-watched wd i passes =
    by (watched_by i.watches wd)
    (row-passes (is_none (watched_by i.watches wd)) Einval (first-passes (row (is_none (watched_by i.watches wd)) Einval) [] passes).0)
  where
    by : (o : Option ℕ) → is_none o ≡ false → (number : ℕ) × (o ≡ Some number)
    by None h = absurd (cc)
    by (Some number) h = (number, refl)

apart : {A : Type 0} {o : Option A} {x : A} → o ≡ None → o ≡ Some x → ⊥
apart e f = cc

-- ---- one call

module _ (laws : EndLaws) where
  left-over : (t : Tree) (c : Call) (id : ℕ) (wd : ℤ) (o : Option Instance) → id < t.next_id → OverIn wd o → OverIn wd (left_of t c id o)
  left-over t (call.File f) id wd o made h =
      over-if wd true (told (notices_of t.world f (cookie_now t.next_cookie)))
      (λ i k. laws.ever i.watches (notices_of t.world f (cookie_now t.next_cookie)) wd k) o h
  left-over t (call.Init limit is_piped) id wd o made h =
      subst (λ b. OverIn wd (cond b (Some (new_instance t.limits limit is_piped)) o)) (sym (eqb-other id t.next_id (λ e. absurd (omega arith)))) h
  left-over t (call.AddWatch from p mask) id wd o made h =
      over-if wd (eqb id from) (watching (number_seen (look t.world p)) (known mask))
      (λ i k. laws.after_added i.watches wd (number_seen (look t.world p)) (known mask) k) o h
  left-over t (call.RmWatch from other) id wd o made h = over-if wd (eqb id from) (unwatching other) (λ i k. laws.after_removed i.watches wd other k) o h
  left-over t (call.Read from bytes) id wd o made h = over-if wd (eqb id from) (after_reading bytes) (λ i k. k) o h
  left-over t (call.Pump from bytes) id wd o made h = over-if wd (eqb id from) (after_reading bytes) (λ i k. k) o h
  left-over t (call.Close from) id wd o made h = over-cut wd (eqb id from) o h

  over-by : (t : Tree) (c : Call) (id : ℕ) (wd : ℤ) (o : Option Refusal) → IsOver t id wd → OverIn wd (instance_of (tree_by o t (accepted t c)).instances id)
  over-by t c id wd (Some r) h = h.over
  over-by t c id wd None h = subst (OverIn wd) (sym (instance_of-accepted t c id)) (left-over t c id wd (instance_of t.instances id) h.made h.over)

  -- it stays so
  pub IsOver-after : (t : Tree) (c : Call) (id : ℕ) (wd : ℤ) → IsOver t id wd → IsOver (after t c) id wd
  IsOver-after t c id wd h = let rises = next-after t c in let made = h.made in record { made = omega arith; over = over-by t c id wd (refusal_of t c) h }

  -- nothing of it is raised
  silent-for : (t : Tree) (c : Call) (id : ℕ) (i : Instance) (wd : ℤ) → instance_of t.instances id ≡ Some i
      → refusal_of t c ≡ None → IsSound i.watches → HasEnded i.watches wd
      → TellsNothing wd (events_for t c id i)
  silent-for t (call.File f) id i wd there passes sound h = laws.later i.watches (notices_of t.world f (cookie_now t.next_cookie)) wd sound h
  silent-for t (call.Init limit is_piped) id i wd there passes sound h = All-nil (λ (e : Event). e.wd ≢ wd)
  silent-for t (call.AddWatch from p mask) id i wd there passes sound h = All-nil (λ (e : Event). e.wd ≢ wd)
  silent-for t (call.RmWatch from other) id i wd there passes sound h = by (from == id) refl
    where
      by : (b : Bool) → (from == id) ≡ b → TellsNothing wd (if b then ignored other ∷ [] else [])
      by true is =
          let open_one : instance_of t.instances from ≡ Some i = ap (instance_of t.instances) (eqb-true from id is) ∙ there in
          let watched = rm-watched other i (ap (λ o. first_row (rm_watch_rows other o)) (sym open_one) ∙ passes) in
          All-cons (λ (e : Event). e.wd ≢ wd) (ignored other) []
          (λ same. apart h.unwatched (ap (watched_by i.watches) (sym same) ∙ watched.1)) (All-nil (λ (e : Event). e.wd ≢ wd))
      by false is = All-nil (λ (e : Event). e.wd ≢ wd)
  silent-for t (call.Read from bytes) id i wd there passes sound h = All-nil (λ (e : Event). e.wd ≢ wd)
  silent-for t (call.Pump from bytes) id i wd there passes sound h = All-nil (λ (e : Event). e.wd ≢ wd)
  silent-for t (call.Close from) id i wd there passes sound h = All-nil (λ (e : Event). e.wd ≢ wd)

  -- each end that is said has come
  said-for : (t : Tree) (c : Call) (id : ℕ) (i : Instance) → instance_of t.instances id ≡ Some i → refusal_of t c ≡ None → IsSound i.watches
      → All (Ends (OverLeft t c id i)) (events_for t c id i)
  said-for t (call.File f) id i there passes sound = by (notices_of t.world f (cookie_now t.next_cookie))
    where
      by : (ns : List Notice) → All (Ends (HasEnded (watches_after i.watches ns))) (events_of i.watches ns)
      by ns =
          let P : Event → Type 0 = λ (e : Event). HasEnded (watches_after i.watches ns) e.wd in
          All-unfiltered says_ended P (events_of i.watches ns)
          (All-same P (filter says_ended (events_of i.watches ns)) (map ignored (wds_ended i.watches ns)) (laws.said i.watches ns)
          (All-map P ignored (wds_ended i.watches ns) (laws.left i.watches ns sound)))
  said-for t (call.Init limit is_piped) id i there passes sound = All-nil (Ends (OverLeft t (call.Init limit is_piped) id i))
  said-for t (call.AddWatch from p mask) id i there passes sound = All-nil (Ends (OverLeft t (call.AddWatch from p mask) id i))
  said-for t (call.RmWatch from wd) id i there passes sound = by (from == id) refl
    where
      P : Event → Type 0
      P = Ends (OverLeft t (call.RmWatch from wd) id i)

      by : (b : Bool) → (from == id) ≡ b → All P (if b then ignored wd ∷ [] else [])
      by true is =
          let open_one : instance_of t.instances from ≡ Some i = ap (instance_of t.instances) (eqb-true from id is) ∙ there in
          let watched = rm-watched wd i (ap (λ o. first_row (rm_watch_rows wd o)) (sym open_one) ∙ passes) in
          All-cons P (ignored wd) []
          (λ said. subst (λ b. OverIn wd (cond b (Some (unwatching wd i)) (Some i))) (sym (eqb-swap id from ∙ is))
          (laws.ends i.watches wd watched.0 sound watched.1))
          (All-nil P)
      by false is = All-nil P
  said-for t (call.Read from bytes) id i there passes sound = All-nil (Ends (OverLeft t (call.Read from bytes) id i))
  said-for t (call.Pump from bytes) id i there passes sound = All-nil (Ends (OverLeft t (call.Pump from bytes) id i))
  said-for t (call.Close from) id i there passes sound = All-nil (Ends (OverLeft t (call.Close from) id i))

  quiet-for : (t : Tree) (c : Call) (id : ℕ) (i : Instance) → IsSound i.watches → Quiet (events_for t c id i)
  quiet-for t (call.File f) id i sound =
      let ns = notices_of t.world f (cookie_now t.next_cookie) in
      Quiet-from (events_of i.watches ns) (λ before after e. laws.here i.watches ns before after e sound)
  quiet-for t (call.Init limit is_piped) id i sound = tt
  quiet-for t (call.AddWatch from p mask) id i sound = tt
  quiet-for t (call.RmWatch from wd) id i sound = by (from == id)
    where
      by : (b : Bool) → Quiet (if b then ignored wd ∷ [] else [])
      by true = (λ said. All-nil (λ (e : Event). e.wd ≢ wd), tt)
      by false = tt
  quiet-for t (call.Read from bytes) id i sound = tt
  quiet-for t (call.Pump from bytes) id i sound = tt
  quiet-for t (call.Close from) id i sound = tt

  -- ---- what one call raises

  abbrev raised-then : Tree → Call → ℕ → Option Refusal → Option Instance → List Event
  raised-then t c id r o = events (where_open r o (λ i. raised_to i.queue (events_for t c id i)))

  silent-by : (t : Tree) (c : Call) (id : ℕ) (wd : ℤ) (r : Option Refusal) (o : Option Instance) → instance_of t.instances id ≡ o
      → refusal_of t c ≡ r → HasSoundWatches o → OverIn wd o
      → TellsNothing wd (raised-then t c id r o)
  silent-by t c id wd (Some r) o there passes sound h = All-nil (λ (e : Event). e.wd ≢ wd)
  silent-by t c id wd None None there passes sound h = All-nil (λ (e : Event). e.wd ≢ wd)
  silent-by t c id wd None (Some i) there passes sound h =
      All-same (λ (e : Event). e.wd ≢ wd) (events (raised_to i.queue (events_for t c id i))) (events_for t c id i)
      (events-raised_to i.queue (events_for t c id i)) (silent-for t c id i wd there passes sound h)

  pub silent-one : (t : Tree) (c : Call) (id : ℕ) (wd : ℤ) → WatchesAreSound t → IsOver t id wd → TellsNothing wd (events (raised_by t c id))
  unfolding raised_by
  silent-one t c id wd sound h = silent-by t c id wd (refusal_of t c) (instance_of t.instances id) refl refl (sound id) h.over

  said-by : (t : Tree) (c : Call) (id : ℕ) (r : Option Refusal) (o : Option Instance) → instance_of t.instances id ≡ o
      → refusal_of t c ≡ r → HasSoundWatches o → (IsSome o → id < (tree_by r t (accepted t c)).next_id)
      → All (Ends (IsOver (tree_by r t (accepted t c)) id)) (raised-then t c id r o)
  said-by t c id (Some r) o there passes sound made = All-nil (Ends (IsOver t id))
  said-by t c id None None there passes sound made = All-nil (Ends (IsOver (accepted t c) id))
  said-by t c id None (Some i) there passes sound made =
      All-same (Ends (IsOver (accepted t c) id)) (events (raised_to i.queue (events_for t c id i))) (events_for t c id i)
      (events-raised_to i.queue (events_for t c id i))
      (All-weaker (Ends (OverLeft t c id i)) (Ends (IsOver (accepted t c) id))
      (λ e h said. record { made = made refl; over = subst (OverIn e.wd) (sym (instance_of-accepted t c id ∙ ap (left_of t c id) there)) (h said) })
      (events_for t c id i) (said-for t c id i there passes sound))

  pub said-one : (t : Tree) (c : Call) (id : ℕ) → WatchesAreSound t → AreBelow t → All (Ends (IsOver (after t c) id)) (events (raised_by t c id))
  unfolding raised_by
  said-one t c id sound below =
      let rises = next-after t c in
      said-by t c id (refusal_of t c) (instance_of t.instances id) refl refl (sound id) (λ there. let made : id < t.next_id = below id there in omega arith)

  quiet-by : (t : Tree) (c : Call) (id : ℕ) (r : Option Refusal) (o : Option Instance) → HasSoundWatches o → Quiet (raised-then t c id r o)
  quiet-by t c id (Some r) o sound = tt
  quiet-by t c id None None sound = tt
  quiet-by t c id None (Some i) sound = subst Quiet (sym (events-raised_to i.queue (events_for t c id i))) (quiet-for t c id i sound)

  pub quiet-one : (t : Tree) (c : Call) (id : ℕ) → WatchesAreSound t → Quiet (events (raised_by t c id))
  unfolding raised_by
  quiet-one t c id sound = quiet-by t c id (refusal_of t c) (instance_of t.instances id) (sound id)

  -- ---- what a journal raises

  events-more : (t : Tree) (e : Entry) (es : List Entry) (id : ℕ)
      → events (raised_in t (e ∷ es) id) ≡ events (raised_by t e.call id) ++ events (raised_in (after t e.call) es id)
  events-more t e es id = map-append (λ (r : Raised). r.event) (raised_by t e.call id) (raised_in (after t e.call) es id)

  silent-from : (t : Tree) (es : List Entry) (id : ℕ) (wd : ℤ) → WatchesAreSound t → IsOver t id wd → TellsNothing wd (events (raised_in t es id))
  silent-from t [] id wd sound h = All-nil (λ (e : Event). e.wd ≢ wd)
  silent-from t (e ∷ es) id wd sound h =
      All-same (λ (x : Event). x.wd ≢ wd) (events (raised_in t (e ∷ es) id)) _ (events-more t e es id)
      (All-append (λ (x : Event). x.wd ≢ wd) (events (raised_by t e.call id)) (events (raised_in (after t e.call) es id)) (silent-one t e.call id wd sound h)
      (silent-from (after t e.call) es id wd (WatchesAreSound-after laws.sound t e.call sound) (IsOver-after t e.call id wd h)))

  quiet-from : (t : Tree) (es : List Entry) (id : ℕ) → WatchesAreSound t → AreBelow t → Quiet (events (raised_in t es id))
  quiet-from t [] id sound below = tt
  quiet-from t (e ∷ es) id sound below =
      let later = WatchesAreSound-after laws.sound t e.call sound in
      let rest = events (raised_in (after t e.call) es id) in
      subst Quiet (sym (events-more t e es id))
      (Quiet-append (events (raised_by t e.call id)) rest (quiet-one t e.call id sound)
      (quiet-from (after t e.call) es id later (AreBelow-after t e.call below))
      (All-weaker (Ends (IsOver (after t e.call) id)) (Ends (λ wd. TellsNothing wd rest)) (λ x h said. silent-from (after t e.call) es id x.wd later (h said))
      (events (raised_by t e.call id)) (said-one t e.call id sound below)))

  given-from : (t : Tree) (es : List Entry) (id : ℕ) → WatchesAreSound t → AreBelow t → All (Ends IsGiven) (events (raised_in t es id))
  given-from t [] id sound below = All-nil (Ends IsGiven)
  given-from t (e ∷ es) id sound below =
      All-same (Ends IsGiven) (events (raised_in t (e ∷ es) id)) _ (events-more t e es id)
      (All-append (Ends IsGiven) (events (raised_by t e.call id)) (events (raised_in (after t e.call) es id))
      (All-weaker (Ends (IsOver (after t e.call) id)) (Ends IsGiven) (λ x h said. over-given x.wd (instance_of (after t e.call).instances id) (h said).over)
      (events (raised_by t e.call id)) (said-one t e.call id sound below))
      (given-from (after t e.call) es id (WatchesAreSound-after laws.sound t e.call sound) (AreBelow-after t e.call below)))

  module _ (t : Tree) (is : IsSoundTree t) (es : List Entry) (id : ℕ) where
    -- nothing joins of a watch whose end waits
    waiting-over : (o : Option Instance) → instance_of t.instances id ≡ o → All (Ends (λ wd. TellsNothing wd (joined (raised_in t es id)))) (waiting_of o)
    waiting-over None at = All-nil (Ends (λ wd. TellsNothing wd (joined (raised_in t es id))))
    waiting-over (Some i) at =
        All-weaker (Ends (HasEnded i.watches)) (Ends (λ wd. TellsNothing wd (joined (raised_in t es id))))
        (λ e over said. joined-silent e.wd (over said).given.0 (raised_in t es id)
        (silent-from t es id e.wd (sound-watches t is)
        (record { made = is.counted.opened id (ap is_some at); over = subst (OverIn e.wd) (sym at) (over said) })))
        i.queue.waiting (is.instances id i at).over

    waiting-quiet : (o : Option Instance) → instance_of t.instances id ≡ o → Quiet (waiting_of o)
    waiting-quiet None at = tt
    waiting-quiet (Some i) at = Quiet-from i.queue.waiting (is.instances id i at).quiet

  pub watches-end-once : WatchesEndOnce
  watches-end-once t es id is =
      let sound = sound-watches t is in
      let below = is.counted.opened in
      EndsOnce-Quiet (waiting_of (instance_of t.instances id)) (raised_in t es id)
      (waiting-quiet t is es id (instance_of t.instances id) refl) (waiting-over t is es id (instance_of t.instances id) refl)
      (quiet-from t es id sound below) (given-from t es id sound below)

  -- ---- descriptors that are given

  added-apart : (w : Watching) (number : ℕ) (wd : ℤ) → IsSound w → HasEnded w wd → wd_added w number ≢ wd
  unfolding wd_added
  added-apart w number wd sound h = by (watch_of w number) refl
    where
      by : (o : Option Watch) → watch_of w number ≡ o → wd_or o (pos w.next_wd) ≢ wd
      by None is same =
          let given = h.given.1 in
          let past : pos w.next_wd <ℤ pos w.next_wd = subst (λ z. z <ℤ pos w.next_wd) (sym same) given in
          absurd (omega (arith, ints))
      by (Some watch) is same = apart h.unwatched ((laws.tells w wd number sound).1 (ap (option_map (λ (x : Watch). x.wd)) is ∙ ap Some same))

  answer-apart : (number : ℕ) (wd : ℤ) (r : Option Refusal) (o : Option Instance) → HasSoundWatches o → OverIn wd o
      → All (λ given. given ≢ wd) (wd_in (reply_by r (watch_answer number o)))
  answer-apart number wd (Some r) o sound h = All-nil (λ (given : ℤ). given ≢ wd)
  answer-apart number wd None None sound h = All-nil (λ (given : ℤ). given ≢ wd)
  answer-apart number wd None (Some i) sound h =
      All-cons (λ (given : ℤ). given ≢ wd) (wd_added i.watches number) [] (added-apart i.watches number wd sound h) (All-nil (λ (given : ℤ). given ≢ wd))

  wds-one : (t : Tree) (c : Call) (id : ℕ) (wd : ℤ) → WatchesAreSound t → IsOver t id wd → All (λ given. given ≢ wd) (wds_of id c (reply_of t c))
  wds-one t (call.File f) id wd sound h = All-nil (λ (given : ℤ). given ≢ wd)
  wds-one t (call.Init limit is_piped) id wd sound h = All-nil (λ (given : ℤ). given ≢ wd)
  wds-one t (call.AddWatch from p mask) id wd sound h = by (from == id) refl
    where
      by : (b : Bool) → (from == id) ≡ b → All (λ given. given ≢ wd) (if b then wd_in (reply_of t (call.AddWatch from p mask)) else [])
      by true is =
          let over : OverIn wd (instance_of t.instances from) = subst (λ (n : ℕ). OverIn wd (instance_of t.instances n)) (sym (eqb-true from id is)) h.over in
          answer-apart (number_seen (look t.world p)) wd (refusal_of t (call.AddWatch from p mask)) (instance_of t.instances from) (sound from) over
      by false is = All-nil (λ (given : ℤ). given ≢ wd)
  wds-one t (call.RmWatch from other) id wd sound h = All-nil (λ (given : ℤ). given ≢ wd)
  wds-one t (call.Read from bytes) id wd sound h = All-nil (λ (given : ℤ). given ≢ wd)
  wds-one t (call.Pump from bytes) id wd sound h = All-nil (λ (given : ℤ). given ≢ wd)
  wds-one t (call.Close from) id wd sound h = All-nil (λ (given : ℤ). given ≢ wd)

  wds-from : (t : Tree) (es : List Entry) (id : ℕ) (wd : ℤ) → IsLawfulFrom t es → WatchesAreSound t → IsOver t id wd
      → All (λ given. given ≢ wd) (wds_given id es)
  wds-from t [] id wd lawful sound h = All-nil (λ (given : ℤ). given ≢ wd)
  wds-from t (e ∷ es) id wd lawful sound h =
      All-append (λ (given : ℤ). given ≢ wd) (wds_of id e.call e.reply) (wds_given id es)
      (subst (λ (r : Reply). All (λ (given : ℤ). given ≢ wd) (wds_of id e.call r)) (sym lawful.0) (wds-one t e.call id wd sound h))
      (wds-from (after t e.call) es id wd lawful.1 (WatchesAreSound-after laws.sound t e.call sound) (IsOver-after t e.call id wd h))

  pub descriptors-end-for-good : DescriptorsEndForGood
  descriptors-end-for-good t es id i wd is lawful there ended =
      let sound = sound-watches t is in
      let over : IsOver t id wd = record { made = is.counted.opened id (ap is_some there); over = subst (OverIn wd) (sym there) ended } in
      (wds-from t es id wd lawful sound over, silent-from t es id wd sound over)
