-- What is read of a tree in which events wait are events, and so its replies spell events.
use Rattle.std.proofs.Common.{◌≡◌, ℕ, zero, suc, Bool, true, false, if◌then◌else◌, ◌==◌, List, [], ◌∷◌, ◌++◌, Option, Some, None, refl, ap, subst, take}
use Rattle.record_codec.specs.declared.event.Event.{Event}
use Rattle.record_codec.specs.Records.{AreEvents}
use Rattle.tree_paths.specs.declared.refusal.Refusal.{Refusal}
use Rattle.instance_table.specs.declared.instance.Instance.{Instance}
use Rattle.instance_table.specs.Instances.{WaitingAreEvents, instance_of, waiting_of}
use Rattle.tree_core.specs.declared.call.Call.{Call}
use Rattle.tree_core.specs.declared.call.Call.TheVariants as call
use Rattle.tree_core.specs.declared.file_system.FileSystem.{FileSystem}
use Rattle.tree_core.specs.declared.reply.Entry.{Entry}
use Rattle.tree_core.specs.Tree.{Tree, refusal_of, accepted_reply, reply_of, after, oldest}
use Rattle.tree_core.specs.Journal.{tree_after}
use Rattle.tree_core.specs.Calls.{IsSpelled}
use Rattle.tree_core.specs.Histories.{read_by, read_in, records_for, where_open}
use Rattle.tree_core.specs.FileSystems.{tree_in}
use Rattle.tree_core.proofs.Parts.{read_answer, reply_by, watch_answer, number_seen}
use Rattle.inode_table.specs.World.{look}
use Rattle.event_queue.specs.Reads.{fitting}

-- ---- lists of events

events-take : (k : ℕ) (es : List Event) → AreEvents es → AreEvents (take k es)
events-take zero es h = tt
events-take (suc k) [] h = tt
events-take (suc k) (e ∷ es) h = (h.0, events-take k es h.1)

events-append : (es fs : List Event) → AreEvents es → AreEvents fs → AreEvents (es ++ fs)
events-append [] fs h g = g
events-append (e ∷ es) fs h g = (h.0, events-append es fs h.1 g)

events-left : (es fs : List Event) → AreEvents (es ++ fs) → AreEvents es
events-left [] fs h = tt
events-left (e ∷ es) fs h = (h.0, events-left es fs h.1)

events-right : (es fs : List Event) → AreEvents (es ++ fs) → AreEvents fs
events-right [] fs h = h
events-right (e ∷ es) fs h = events-right es fs h.1

-- ---- one call

where-same : (b : Bool) (es : List Event) → AreEvents es → AreEvents (if b then es else [])
where-same true es h = h
where-same false es h = tt

module _ (t : Tree) (waits : WaitingAreEvents t.instances) where
  oldest-events : (id bytes : ℕ) (i : Instance) → instance_of t.instances id ≡ Some i → AreEvents (oldest bytes i)
  oldest-events id bytes i at = events-take (fitting bytes i.queue.waiting) i.queue.waiting (subst (λ o. AreEvents (waiting_of o)) at (waits id))

  records-events : (c : Call) (id : ℕ) (i : Instance) → instance_of t.instances id ≡ Some i → AreEvents (records_for c id i)
  records-events (call.File f) id i at = tt
  records-events (call.Init limit is_piped) id i at = tt
  records-events (call.AddWatch from p mask) id i at = tt
  records-events (call.RmWatch from wd) id i at = tt
  records-events (call.Read from bytes) id i at = where-same (from == id) (oldest bytes i) (oldest-events id bytes i at)
  records-events (call.Pump from bytes) id i at = where-same (from == id) (oldest bytes i) (oldest-events id bytes i at)
  records-events (call.Close from) id i at = tt

  -- what a call reads
  pub read-events : (c : Call) (id : ℕ) → AreEvents (read_by t c id)
  unfolding read_by
  read-events c id = by (refusal_of t c) (instance_of t.instances id) refl
    where
      by : (r : Option Refusal) (o : Option Instance) → instance_of t.instances id ≡ o → AreEvents (where_open r o (records_for c id))
      by (Some r) o at = tt
      by None None at = tt
      by None (Some i) at = records-events c id i at

  read-spelled : (id bytes : ℕ) (o : Option Instance) → instance_of t.instances id ≡ o → IsSpelled (read_answer bytes o)
  read-spelled id bytes None at = tt
  read-spelled id bytes (Some i) at = (oldest bytes i, oldest-events id bytes i at, refl)

  watch-spelled : (number : ℕ) (o : Option Instance) → IsSpelled (watch_answer number o)
  watch-spelled number None = tt
  watch-spelled number (Some i) = tt

  answer-spelled : (c : Call) → IsSpelled (accepted_reply t c)
  answer-spelled (call.File f) = tt
  answer-spelled (call.Init limit is_piped) = tt
  answer-spelled (call.AddWatch from p mask) = watch-spelled (number_seen (look t.world p)) (instance_of t.instances from)
  answer-spelled (call.RmWatch from wd) = tt
  answer-spelled (call.Read from bytes) = read-spelled from bytes (instance_of t.instances from) refl
  answer-spelled (call.Pump from bytes) = read-spelled from bytes (instance_of t.instances from) refl
  answer-spelled (call.Close from) = tt

  -- what a call answers
  pub reply-spelled : (c : Call) → IsSpelled (reply_of t c)
  reply-spelled c = by (refusal_of t c)
    where
      by : (r : Option Refusal) → IsSpelled (reply_by r (accepted_reply t c))
      by (Some r) = tt
      by None = answer-spelled c

-- a file system and its tree have the same instances
pub events-of-file_system : (t : Tree) (m : FileSystem) → tree_in m ≡ t → WaitingAreEvents m.instances → WaitingAreEvents t.instances
events-of-file_system t m is waits = subst WaitingAreEvents (ap (λ (x : Tree). x.instances) is) waits

-- ---- a journal

pub read-more : (t : Tree) (es : List Entry) (e : Entry) (id : ℕ) → AreEvents (read_in t es id)
    → AreEvents (read_by (tree_after t es) e.call id) → AreEvents (read_in t (es ++ e ∷ []) id)
read-more t [] e id h g = events-append (read_by t e.call id) [] g tt
read-more t (x ∷ es) e id h g =
    let one = read_by t x.call id in
    let rest = read_in (after t x.call) es id in
    events-append one (read_in (after t x.call) (es ++ e ∷ []) id) (events-left one rest h) (read-more (after t x.call) es e id (events-right one rest h) g)
