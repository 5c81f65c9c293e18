-- Each call leaves a sound tree sound.
use Rattle.std.proofs.Common.{◌≡◌, ◌≢◌, ◌⊎◌, inl, inr, ℕ, ◌+◌, ◌<◌, ◌≤◌, Bool, true, false, cond, eqb, List, [], ◌∷◌}
use Rattle.std.proofs.Common.{Option, Some, None, is_some, refl, sym, ap, subst, ◌∙◌, arith}
use Rattle.std.proofs.lemmas.Bool.{cases_eq, true≢false}
use Rattle.std.proofs.lemmas.List.Elements.{All-head, All-tail, All-weaker}
use Rattle.std.specs.Prelude.{ℤ, pos, negsuc, ◌≤ℤ◌, All, Contains, IfSome, IsSome, fold, option_map}
use Rattle.std.specs.FinMap as finmap
use Rattle.std.specs.FinMap.{get-empty, nat_cmp-IsAntisymmetric}
use Rattle.std.specs.Ordering.{nat_cmp}
use Rattle.std.specs.Cmp.{nat_cmp_total}
use Rattle.record_codec.specs.declared.event.Event.{Event}
use Rattle.record_codec.specs.declared.bits.TheConstants.{IN_IGNORED, IN_Q_OVERFLOW}
use Rattle.tree_paths.specs.Rows.{first_row}
use Rattle.tree_paths.specs.declared.limits.Limits.{Limits}
use Rattle.tree_paths.specs.declared.refusal.Refusal.{Refusal}
use Rattle.inode_table.specs.Rows.{Label}
use Rattle.inode_table.specs.Refusals.{find}
use Rattle.inode_table.specs.World.{World, File, IsWorld, IsWhole, look, opening_world, root_number}
use Rattle.inode_table.specs.declared.seen.Seen.{Seen}
use Rattle.inode_table.proofs.TreeLemmas.{some_none}
use Rattle.inode_table.proofs.SeenLemmas.{is_value}
use Rattle.inode_table.proofs.WorldLemmas.{get-insert_other}
use Rattle.tree_ops.specs.declared.call.Counts.{Counts}
use Rattle.tree_ops.specs.declared.call.FileCall.{FileCall}
use Rattle.tree_ops.specs.Refused.{refused}
use Rattle.tree_ops.specs.After as ops
use Rattle.tree_ops.proofs.Worlds.{standing}
use Rattle.watch_table.specs.Masks.{known, mask_fault}
use Rattle.watch_table.specs.declared.watch.Watch.{Watch}
use Rattle.watch_table.specs.Watching.{Watching, IsSound, added, dropped, removed, watched_by, no_watches, watch_of}
use Rattle.watch_table.proofs.Watched.{added_to, without}
use Rattle.event_queue.specs.Backlogs.{Backlog, after_offer, overflow_mark}
use Rattle.event_queue.specs.Fates.{IsBounded, KeepsBounds}
use Rattle.event_rules.specs.declared.notice.Notice.{Notice}
use Rattle.event_rules.specs.declared.notice.Notice.TheVariants.{Gone}
use Rattle.event_rules.specs.Table.{notices_of}
use Rattle.event_rules.specs.Raised.{events_of, ignored, watches_after}
use Rattle.event_rules.specs.Laws.{HasWatch, IsPartOf}
use Rattle.event_rules.proofs.Removals.{dropped-was}
use Rattle.instance_table.specs.declared.instance.Instance.{Instance}
use Rattle.instance_table.specs.Instances.{instance_of, new_instance, told, watching, unwatching}
use Rattle.tree_core.specs.declared.call.Call.{Call}
use Rattle.tree_core.specs.declared.call.Call.TheVariants as call
use Rattle.tree_core.specs.declared.reply.Entry.{Entry}
use Rattle.tree_core.specs.Tree.{Tree, opening, cookie_now, counts_of, refusal_of, accepted, after}
use Rattle.tree_core.specs.Tree.{add_watch_rows, after_file}
use Rattle.tree_core.specs.Journal.{tree_after}
use Rattle.tree_core.specs.Sound.{IsCounted, IsSoundInstance, IsSoundTree}
use Rattle.tree_core.specs.TurnLaws.{TreesAreSound}
use Rattle.tree_core.proofs.Parts.{tree_by, seen_fault, after_reading, after_init, number_seen}
use Rattle.tree_core.proofs.Counted.{IsCounted-filed}
use Rattle.tree_core.proofs.Instances.{opened-put, opened-cut, opened-changed, init-passes, at-instance, none-opened}
use Rattle.tree_core.proofs.Opened.{left_of, instance_of-accepted}
use Rattle.tree_core.proofs.Serving.{after-accepted}
use Rattle.tree_core.proofs.SoundTrees.{sound-if-open, sound-watches}
use Rattle.tree_core.proofs.SoundWatches.{WatchLaws, WatchesAreSound, WatchesAreSound-after, found-there}
use Rattle.tree_core.proofs.Quiet.{nothing-behind}
use Rattle.tree_core.proofs.Waiting.{WaitLaws, Waits, cookies-rise, waits-after}

-- the laws of the crates below on which the soundness of trees rests
pub record TreeLaws : Type 0 where
  pub watches : WatchLaws
  pub world : (w : World) (limits : Limits) (counts : Counts) (f : FileCall) → IsWorld w → refused w limits counts f ≡ None
      → finmap.get w.files counts.next_number ≡ None → IsWorld (ops.after w counts f)
  pub whole : (w : World) (limits : Limits) (counts : Counts) (f : FileCall) → IsWorld w → IsWhole w
      → refused w limits counts f ≡ None → finmap.get w.files counts.next_number ≡ None → IsWhole (ops.after w counts f)
  pub opened : IsWorld opening_world
  pub opened_whole : IsWhole opening_world
  pub numbers : (w : World) (counts : Counts) (f : FileCall) (n : ℕ) → IsSome (finmap.get (ops.after w counts f).files n)
      → IsSome (finmap.get w.files n) ⊎ ((n ≡ counts.next_number) × (ops.numbers_of f ≡ 1))
  pub told : (w : World) (limits : Limits) (counts : Counts) (f : FileCall) (cookie n : ℕ) → IsWorld w → refused w limits counts f ≡ None
      → IsSome (finmap.get w.files n) → finmap.get (ops.after w counts f).files n ≡ None → Contains (notices_of w f cookie) (Gone n)
  pub unwatched : (w : Watching) (ns : List Notice) (n : ℕ) → Contains ns (Gone n) → watch_of (watches_after w ns) n ≡ None
  pub part : (w : Watching) (ns : List Notice) → IsPartOf (watches_after w ns) w
  pub of_watches : (w : Watching) (ns : List Notice) → All (λ e. HasWatch w e.wd) (events_of w ns)
  pub bounds : (b : Backlog) → KeepsBounds b
  pub waits : WaitLaws

-- ---- counts

IsCounted-accepted : (t : Tree) (c : Call) → IsCounted t → refusal_of t c ≡ None → IsCounted (accepted t c)
IsCounted-accepted t (call.File f) is none = IsCounted-filed t f is none
IsCounted-accepted t (call.Init limit is_piped) is none = record {
  numbers = is.numbers;
  cookies = is.cookies;
  ids = let last = (init-passes t.limits t.instances t.next_id limit (sym none)).2 in omega arith;
  opened = λ id there. later id (opened-put t.instances t.next_id (new_instance t.limits limit is_piped) id there);
}
  where
    later : (id : ℕ) → (id ≡ t.next_id) ⊎ IsSome (instance_of t.instances id) → id < t.next_id + 1
    later id (inl e) = omega arith
    later id (inr was) = let before = is.opened id was in omega arith
IsCounted-accepted t (call.AddWatch from p mask) is none =
    record {
      numbers = is.numbers;
      cookies = is.cookies;
      ids = is.ids;
      opened = λ id there. is.opened id (opened-changed t.instances from (watching (number_seen (look t.world p)) (known mask)) id there);
    }
IsCounted-accepted t (call.RmWatch from wd) is none =
    record {
      numbers = is.numbers;
      cookies = is.cookies;
      ids = is.ids;
      opened = λ id there. is.opened id (opened-changed t.instances from (unwatching wd) id there);
    }
IsCounted-accepted t (call.Read from bytes) is none =
    record {
      numbers = is.numbers;
      cookies = is.cookies;
      ids = is.ids;
      opened = λ id there. is.opened id (opened-changed t.instances from (after_reading bytes) id there);
    }
IsCounted-accepted t (call.Pump from bytes) is none =
    record {
      numbers = is.numbers;
      cookies = is.cookies;
      ids = is.ids;
      opened = λ id there. is.opened id (opened-changed t.instances from (after_reading bytes) id there);
    }
IsCounted-accepted t (call.Close from) is none =
    record { numbers = is.numbers; cookies = is.cookies; ids = is.ids; opened = λ id there. is.opened id (opened-cut t.instances from id there) }

-- ---- queues

-- no event of a watch is the mark, whose descriptor is no watch's
pub watch-no_mark : (w : Watching) → IsSound w → (e : Event) → HasWatch w e.wd → e ≢ overflow_mark
unfolding overflow_mark
watch-no_mark w sound e has is =
    let first = (sound.given has.0 e.wd has.1).0 in
    let below : pos 1 ≤ℤ negsuc 0 = subst (λ (wd : ℤ). pos 1 ≤ℤ wd) (ap (λ (x : Event). x.wd) is) first in
    omega (arith, below)

pub ignored-no_mark : (wd : ℤ) → ignored wd ≢ overflow_mark
unfolding overflow_mark
ignored-no_mark wd is = let e : ◌≡◌ {A = ℕ} IN_IGNORED IN_Q_OVERFLOW = ap (λ (x : Event). x.mask) is in true≢false (ap (λ (n : ℕ). eqb IN_IGNORED n) e)

module _ (bounds : (b : Backlog) → KeepsBounds b) where
  bounded-all : (b : Backlog) (es : List Event) → All (λ (e : Event). e ≢ overflow_mark) es → IsBounded b → IsBounded (fold after_offer b es)
  bounded-all b [] h is = is
  bounded-all b (e ∷ es) h is =
      bounded-all (after_offer b e) es (All-tail (λ (x : Event). x ≢ overflow_mark) e es h)
      ((bounds b).offers e (All-head (λ (x : Event). x ≢ overflow_mark) e es h) is)

limit-all : (b : Backlog) (es : List Event) → (fold after_offer b es).limit ≡ b.limit
limit-all b [] = refl
limit-all b (e ∷ es) = limit-all (after_offer b e) es

-- ---- watched files

-- the watches of an instance, and of the files that it watches after one more
watched-added : (w : Watching) (number mask n : ℕ) → IsSome (watch_of (added w number mask) n) → (n ≡ number) ⊎ IsSome (watch_of w n)
unfolding added
watched-added w number mask n h =
    elim (cases_eq n number) [
      | inl e ↦ inl e
      | inr off ↦ inr (subst (λ (o : Option Watch). IsSome o) (by off (watch_of w number)) h)
    ]
  where
    by : n ≢ number → (o : Option Watch) → watch_of (added_to w number mask o) n ≡ watch_of w n
    by off None = get-insert_other nat_cmp_total nat_cmp-IsAntisymmetric w.watches number _ n off
    by off (Some watch) = get-insert_other nat_cmp_total nat_cmp-IsAntisymmetric w.watches number _ n off

watched-removed : (w : Watching) (wd : ℤ) (n : ℕ) → IsSome (watch_of (removed w wd) n) → IsSome (watch_of w n)
watched-removed w wd n h = by (watched_by w wd) h
  where
    by : (o : Option ℕ) → IsSome (watch_of (without w o) n) → IsSome (watch_of w n)
    by None g = g
    by (Some number) g = let watch = is_value _ g in ap is_some (dropped-was w number n watch.0 watch.1).1

-- what an accepted call watches is there
seen-file : (t : Tree) (from : ℕ) (p : List Label) (mask : ℕ) → refusal_of t (call.AddWatch from p mask) ≡ None
    → IsSome (finmap.get t.world.files (number_seen (look t.world p)))
unfolding add_watch_rows
seen-file t from p mask none = by (instance_of t.instances from) none
  where
    first : (o : Option Refusal) (rows : List (Option Refusal)) → first_row (o ∷ rows) ≡ None → (o ≡ None) × (first_row rows ≡ None)
    first None rows e = (refl, e)
    first (Some r) rows e = absurd (cc)

    there : (o : Option Seen) → look t.world p ≡ o → IsSome o → IsSome (finmap.get t.world.files (number_seen o))
    there None at some = absurd (cc)
    there (Some s) at some =
        let a = standing t.world p s at in
        let number : a.number ≡ s.number = ap (λ (x : Seen). x.number) a.seen in
        ap is_some (ap (finmap.get t.world.files) (sym number) ∙ a.is)

    by : (o : Option Instance) → first_row (add_watch_rows (look t.world) p (known mask) o) ≡ None
        → IsSome (finmap.get t.world.files (number_seen (look t.world p)))
    by None e = absurd (cc)
    by (Some i) e =
        let mask_passes = first (mask_fault (known mask)) (find (look t.world) p ∷ seen_fault i (known mask) (look t.world p) ∷ []) e in
        let path_passes = first (find (look t.world) p) (seen_fault i (known mask) (look t.world p) ∷ []) mask_passes.1 in
        there (look t.world p) refl (found-there (look t.world) p path_passes.0)

-- the limits of the watches of an instance
record HasLimits (limits : Limits) (w : Watching) : Type 0 where
  most : w.most_watches ≡ limits.watches
  last : w.last_wd ≡ limits.wds

limits-added : (limits : Limits) (w : Watching) (number mask : ℕ) → HasLimits limits w → HasLimits limits (added w number mask)
unfolding added
limits-added limits w number mask has = by (watch_of w number)
  where
    by : (o : Option Watch) → HasLimits limits (added_to w number mask o)
    by None = record { most = has.most; last = has.last }
    by (Some watch) = record { most = has.most; last = has.last }

limits-removed : (limits : Limits) (w : Watching) (wd : ℤ) → HasLimits limits w → HasLimits limits (removed w wd)
unfolding dropped
limits-removed limits w wd has = by (watched_by w wd)
  where
    by : (o : Option ℕ) → HasLimits limits (without w o)
    by None = has
    by (Some number) = record { most = has.most; last = has.last }

-- ---- instances

-- the files that an instance watches are there, it has the limits of the tree, and its queue keeps its bounds
record IsKeeping (t : Tree) (i : Instance) : Type 0 where
  has_limits : HasLimits t.limits i.watches
  watched : (number : ℕ) → IsSome (watch_of i.watches number) → IsSome (finmap.get t.world.files number)
  bounded : IsBounded i.queue
  limited : i.queue.limit ≤ t.limits.queue

keeping-if : (P Q : Instance → Type 0) (b : Bool) (change : Instance → Instance) → ((i : Instance) → P i → Q i)
    → ((i : Instance) → P i → Q (change i)) → (o : Option Instance) → IfSome o P → IfSome (cond b (option_map change o) o) Q
keeping-if P Q true change same now None h = tt
keeping-if P Q true change same now (Some i) h = now i h
keeping-if P Q false change same now None h = tt
keeping-if P Q false change same now (Some i) h = same i h

weaker-if : (P Q : Instance → Type 0) → ((i : Instance) → P i → Q i) → (o : Option Instance) → IfSome o P → IfSome o Q
weaker-if P Q f None h = tt
weaker-if P Q f (Some i) h = f i h

module _ (laws : TreeLaws) (t : Tree) (is : IsSoundTree t) where
  unused : finmap.get t.world.files t.next_number ≡ None
  unused =
      elim (finmap.get t.world.files t.next_number) as (λ o. finmap.get t.world.files t.next_number ≡ o → o ≡ None) [
        | None ↦ λ _. refl
        | Some f ↦ λ at. let below : t.next_number < t.next_number = is.given t.next_number (ap is_some at) in absurd (omega arith)
      ] refl

  -- ---- a call on files

  -- a file that an instance still watches is still there
  still-there : (f : FileCall) → refusal_of t (call.File f) ≡ None → (i : Instance) → IsSoundInstance t i → (number : ℕ)
      → IsSome (watch_of (told (notices_of t.world f (cookie_now t.next_cookie)) i).watches number)
      → IsSome (finmap.get (ops.after t.world (counts_of t) f).files number)
  still-there f none i sound number h =
      let ns = notices_of t.world f (cookie_now t.next_cookie) in
      let watch = is_value (watch_of (watches_after i.watches ns) number) h in
      let was = sound.watched number (ap is_some ((laws.part i.watches ns).watches number watch.0 watch.1)) in
      elim (finmap.get (ops.after t.world (counts_of t) f).files number) as (λ o. finmap.get (ops.after t.world (counts_of t) f).files number ≡ o → IsSome o) [
        | Some file ↦ λ _. refl
        | None ↦ λ gone.
            let told_gone = laws.told t.world t.limits (counts_of t) f (cookie_now t.next_cookie) number is.world none was gone in
            absurd (some_none (laws.unwatched i.watches ns number told_gone) watch.1)
      ] refl

  keeps-told : (f : FileCall) → refusal_of t (call.File f) ≡ None → (i : Instance) → IsSoundInstance t i
      → IsKeeping (accepted t (call.File f)) (told (notices_of t.world f (cookie_now t.next_cookie)) i)
  unfolding after_file
  keeps-told f none i sound =
      let es = events_of i.watches (notices_of t.world f (cookie_now t.next_cookie)) in
      let part = laws.part i.watches (notices_of t.world f (cookie_now t.next_cookie)) in
      record {
        has_limits = record { most = part.most_watches ∙ sound.most_watches; last = part.last_wd ∙ sound.last_wd };
        watched = still-there f none i sound;
        bounded =
            bounded-all laws.bounds i.queue es
            (All-weaker (λ (e : Event). HasWatch i.watches e.wd) (λ (e : Event). e ≢ overflow_mark)
            (watch-no_mark i.watches sound.watches) es (laws.of_watches i.watches (notices_of t.world f (cookie_now t.next_cookie))))
            sound.bounded;
        limited = subst (λ n. n ≤ t.limits.queue) (sym (limit-all i.queue es)) sound.limited;
      }

  -- ---- every call

  keeps-same : (c : Call) (i : Instance) → (accepted t c).world ≡ t.world → (accepted t c).limits ≡ t.limits → IsSoundInstance t i → IsKeeping (accepted t c) i
  keeps-same c i world limits sound = record {
    has_limits =
        record { most = sound.most_watches ∙ sym (ap (λ (l : Limits). l.watches) limits); last = sound.last_wd ∙ sym (ap (λ (l : Limits). l.wds) limits) };
    watched = λ number h. subst (λ (w : World). IsSome (finmap.get w.files number)) (sym world) (sound.watched number h);
    bounded = sound.bounded;
    limited = subst (λ (l : Limits). i.queue.limit ≤ l.queue) (sym limits) sound.limited;
  }

  keeps-read : (c : Call) (bytes : ℕ) (i : Instance) → (accepted t c).world ≡ t.world → (accepted t c).limits ≡ t.limits
      → IsSoundInstance t i → IsKeeping (accepted t c) (after_reading bytes i)
  keeps-read c bytes i world limits sound = let same = keeps-same c i world limits sound in record {
    has_limits = same.has_limits;
    watched = same.watched;
    bounded = (laws.bounds i.queue).reads _ sound.bounded;
    limited = same.limited;
  }

  no-watch : (number : ℕ) → IsSome (watch_of (no_watches t.limits) number) → ⊥
  no-watch number h = let watch = is_value _ h in some_none (get-empty {X = Watch} nat_cmp number) watch.1

  keeps-left : (c : Call) (id : ℕ) (o : Option Instance) → refusal_of t c ≡ None → IfSome o (IsSoundInstance t)
      → IfSome (left_of t c id o) (IsKeeping (accepted t c))
  keeps-left (call.File f) id None none h = tt
  keeps-left (call.File f) id (Some i) none h = keeps-told f none i h
  keeps-left (call.Init limit is_piped) id o none h = by (eqb id t.next_id)
    where
      by : (b : Bool) → IfSome (cond b (Some (new_instance t.limits limit is_piped)) o) (IsKeeping (after_init t limit is_piped))
      by true = record {
        has_limits = record { most = refl; last = refl };
        watched = λ number g. absurd (no-watch number g);
        bounded = (laws.bounds (record { limit = limit; waiting = [] })).begins;
        limited = (init-passes t.limits t.instances t.next_id limit (sym none)).1;
      }
      by false = weaker-if (IsSoundInstance t) (IsKeeping (after_init t limit is_piped)) (λ i g. keeps-same (call.Init limit is_piped) i refl refl g) o h
  keeps-left (call.AddWatch from p mask) id o none h =
      keeping-if (IsSoundInstance t) (IsKeeping (accepted t (call.AddWatch from p mask))) (eqb id from) (watching (number_seen (look t.world p)) (known mask))
      (λ i g. keeps-same (call.AddWatch from p mask) i refl refl g)
      (λ i g. record {
        has_limits = limits-added t.limits i.watches (number_seen (look t.world p)) (known mask) (record { most = g.most_watches; last = g.last_wd });
        watched = λ number there. by i g number (watched-added i.watches (number_seen (look t.world p)) (known mask) number there);
        bounded = g.bounded;
        limited = g.limited;
      }) o h
    where
      by : (i : Instance) → IsSoundInstance t i → (number : ℕ)
          → (number ≡ number_seen (look t.world p)) ⊎ IsSome (watch_of i.watches number) → IsSome (finmap.get t.world.files number)
      by i g number (inl e) = subst (λ n. IsSome (finmap.get t.world.files n)) (sym e) (seen-file t from p mask none)
      by i g number (inr was) = g.watched number was
  keeps-left (call.RmWatch from wd) id o none h =
      keeping-if (IsSoundInstance t) (IsKeeping (accepted t (call.RmWatch from wd))) (eqb id from) (unwatching wd)
      (λ i g. keeps-same (call.RmWatch from wd) i refl refl g)
      (λ i g. record {
        has_limits = limits-removed t.limits i.watches wd (record { most = g.most_watches; last = g.last_wd });
        watched = λ number there. g.watched number (watched-removed i.watches wd number there);
        bounded = (laws.bounds i.queue).offers (ignored wd) (ignored-no_mark wd) g.bounded;
        limited = g.limited;
      }) o h
  keeps-left (call.Read from bytes) id o none h =
      keeping-if (IsSoundInstance t) (IsKeeping (accepted t (call.Read from bytes))) (eqb id from) (after_reading bytes)
      (λ i g. keeps-same (call.Read from bytes) i refl refl g) (λ i g. keeps-read (call.Read from bytes) bytes i refl refl g) o h
  keeps-left (call.Pump from bytes) id o none h =
      keeping-if (IsSoundInstance t) (IsKeeping (accepted t (call.Pump from bytes))) (eqb id from) (after_reading bytes)
      (λ i g. keeps-same (call.Pump from bytes) i refl refl g) (λ i g. keeps-read (call.Pump from bytes) bytes i refl refl g) o h
  keeps-left (call.Close from) id o none h = by (eqb id from)
    where
      by : (b : Bool) → IfSome (cond b None o) (IsKeeping (accepted t (call.Close from)))
      by true = tt
      by false = weaker-if (IsSoundInstance t) (IsKeeping (accepted t (call.Close from))) (λ i g. keeps-same (call.Close from) i refl refl g) o h

  -- ---- the files

  world-accepted : (c : Call) → refusal_of t c ≡ None → IsWorld (accepted t c).world
  unfolding after_file
  world-accepted (call.File f) none = laws.world t.world t.limits (counts_of t) f is.world none unused
  world-accepted (call.Init limit is_piped) none = is.world
  world-accepted (call.AddWatch from p mask) none = is.world
  world-accepted (call.RmWatch from wd) none = is.world
  world-accepted (call.Read from bytes) none = is.world
  world-accepted (call.Pump from bytes) none = is.world
  world-accepted (call.Close from) none = is.world

  whole-accepted : (c : Call) → refusal_of t c ≡ None → IsWhole (accepted t c).world
  unfolding after_file
  whole-accepted (call.File f) none = laws.whole t.world t.limits (counts_of t) f is.world is.whole none unused
  whole-accepted (call.Init limit is_piped) none = is.whole
  whole-accepted (call.AddWatch from p mask) none = is.whole
  whole-accepted (call.RmWatch from wd) none = is.whole
  whole-accepted (call.Read from bytes) none = is.whole
  whole-accepted (call.Pump from bytes) none = is.whole
  whole-accepted (call.Close from) none = is.whole

  given-filed : (f : FileCall) (number : ℕ) → IsSome (finmap.get t.world.files number) ⊎ ((number ≡ t.next_number) × (ops.numbers_of f ≡ 1))
      → number < t.next_number + ops.numbers_of f
  given-filed f number (inl was) = let before = is.given number was in omega arith
  given-filed f number (inr (e, one)) = omega (arith, e, one)

  given-accepted : (c : Call) (number : ℕ) → IsSome (finmap.get (accepted t c).world.files number) → number < (accepted t c).next_number
  unfolding after_file
  given-accepted (call.File f) number h = given-filed f number (laws.numbers t.world (counts_of t) f number h)
  given-accepted (call.Init limit is_piped) number h = is.given number h
  given-accepted (call.AddWatch from p mask) number h = is.given number h
  given-accepted (call.RmWatch from wd) number h = is.given number h
  given-accepted (call.Read from bytes) number h = is.given number h
  given-accepted (call.Pump from bytes) number h = is.given number h
  given-accepted (call.Close from) number h = is.given number h

  -- ---- the tree

  IsSoundTree-accepted : (c : Call) → refusal_of t c ≡ None → IsSoundTree (accepted t c)
  IsSoundTree-accepted c none = record {
    counted = IsCounted-accepted t c is.counted none;
    world = world-accepted c none;
    whole = whole-accepted c none;
    given = given-accepted c;
    cookies = let more = cookies-rise t c in let first = is.cookies in let same = ap (λ (u : Tree). u.next_cookie) (after-accepted t c none) in omega arith;
    instances = λ id i at.
        let left : left_of t c id (instance_of t.instances id) ≡ Some i = sym (instance_of-accepted t c id) ∙ at in
        let keeping = at-instance (IsKeeping (accepted t c)) (left_of t c id (instance_of t.instances id)) i left
        (keeps-left c id (instance_of t.instances id) none (sound-if-open t is id)) in
        let sound = subst WatchesAreSound (after-accepted t c none) (WatchesAreSound-after laws.watches t c (sound-watches t is)) in
        let waits = subst (λ (u : Tree). Waits u i) (after-accepted t c none)
        (waits-after laws.waits t is c id i (ap (λ (u : Tree). instance_of u.instances id) (after-accepted t c none) ∙ at)) in
        record {
          watches = at-instance (λ x. IsSound x.watches) (instance_of (accepted t c).instances id) i at (sound id);
          most_watches = keeping.has_limits.most;
          last_wd = keeping.has_limits.last;
          watched = keeping.watched;
          bounded = keeping.bounded;
          limited = keeping.limited;
          given = waits.given;
          quiet = nothing-behind i.queue.waiting waits.quiet;
          over = waits.over;
        };
  }

  by-refusal : (c : Call) (o : Option Refusal) → refusal_of t c ≡ o → IsSoundTree (tree_by o t (accepted t c))
  by-refusal c (Some r) e = is
  by-refusal c None e = IsSoundTree-accepted c e

  pub IsSoundTree-after : (c : Call) → IsSoundTree (after t c)
  IsSoundTree-after c = by-refusal c (refusal_of t c) refl

-- ---- a journal

module _ (laws : TreeLaws) where
  IsSoundTree-tree_after : (t : Tree) (es : List Entry) → IsSoundTree t → IsSoundTree (tree_after t es)
  IsSoundTree-tree_after t [] is = is
  IsSoundTree-tree_after t (e ∷ es) is = IsSoundTree-tree_after (after t e.call) es (IsSoundTree-after laws t is e.call)

  given-opening : (number : ℕ) → IsSome (finmap.get opening_world.files number) → number < root_number + 1
  unfolding opening_world
  given-opening number h =
      elim (cases_eq number root_number) [
        | inl e ↦ omega (arith, e)
        | inr off ↦
            let f = is_value _ h in
            absurd (some_none
            (get-insert_other nat_cmp_total nat_cmp-IsAntisymmetric finmap.empty root_number _ number off ∙ get-empty {X = File} nat_cmp number) f.1)
      ]

  IsSoundTree-opening : (limits : Limits) → IsSoundTree (opening limits)
  unfolding opening
  IsSoundTree-opening limits = record {
    counted = record {
      numbers = let least = limits.numbers_in.0 in omega arith;
      cookies = let least = limits.cookies_in.0 in omega arith;
      ids = let least = limits.ids_in.0 in omega arith;
      opened = λ id h. absurd (none-opened id h);
    };
    world = laws.opened;
    whole = laws.opened_whole;
    given = given-opening;
    cookies = omega arith;
    instances = λ id i at. absurd (none-opened id (ap is_some at));
  }

  pub trees-sound : TreesAreSound
  trees-sound = record { opened = IsSoundTree-opening; stay = IsSoundTree-tree_after }
