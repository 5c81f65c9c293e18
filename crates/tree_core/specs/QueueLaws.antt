-- Laws of journals: what is raised for an instance, what joins its queue, and what is read of it.
use Rattle.std.specs.Prelude.{◌≡◌, ℕ, ◌+◌, ◌≤◌, not, List, [], ◌∷◌, ◌++◌, Option, Some, None, All, length, count_by}
use Rattle.std.specs.List.{filter}
use Rattle.record_codec.specs.declared.event.Event.{Event}
use Rattle.record_codec.specs.Records.{AreEvents, spelling}
use Rattle.event_queue.specs.Backlogs.{is_mark}
use Rattle.event_queue.specs.Fates.{HasFate}
use Rattle.instance_table.specs.declared.instance.Instance.{Instance}
use Rattle.instance_table.specs.Instances.{WaitingAreEvents, instance_of, waiting_of}
use Rattle.tree_core.specs.declared.call.Call.{Call}
use Rattle.tree_core.specs.declared.call.Call.TheVariants as call
use Rattle.tree_core.specs.declared.reply.Entry.{Entry}
use Rattle.tree_core.specs.declared.reply.Reply.{Reply}
use Rattle.tree_core.specs.declared.reply.Reply.TheVariants as reply
use Rattle.tree_core.specs.Tree.{Tree}
use Rattle.tree_core.specs.Journal.{IsLawfulFrom, Journaled, now, tree_after}
use Rattle.tree_core.specs.Sound.{IsSoundTree}
use Rattle.tree_core.specs.Histories.{Raised, raised_by, raised_in, read_in, fate, is_keeping, is_merging, is_losing}
use Rattle.tree_core.specs.Histories.{events, joined, if_same}

-- ---- what was read, and what waits

-- what was read of an instance, followed by what waits, is what waited at first and all that joined. What waited at its
-- close was given up
abbrev pub IsInOrder : List Event → List Event → Option Instance → Type 0
IsInOrder read joined (Some i) = read ++ i.queue.waiting ≡ joined
IsInOrder read joined None = (given_up : List Event) × (read ++ given_up ≡ joined)

abbrev pub ReadsAreInOrder : Type 0
ReadsAreInOrder =
    (t : Tree) (es : List Entry) (id : ℕ) → IsSoundTree t
    → IsInOrder (read_in t es id) (waiting_of (instance_of t.instances id) ++ joined (raised_in t es id))
    (instance_of (tree_after t es).instances id)

-- the bytes that a call read of an instance
abbrev pub bytes_of : ℕ → Call → Reply → List ℕ
bytes_of id (call.Read from count) (reply.Records bytes) = if_same from id bytes
bytes_of id (call.Pump from count) (reply.Records bytes) = if_same from id bytes
bytes_of id _ _ = []

-- the bytes that were read of an instance, in order
abbrev pub bytes_read : ℕ → List Entry → List ℕ
bytes_read id [] = []
bytes_read id (e ∷ es) = bytes_of id e.call e.reply ++ bytes_read id es

-- the bytes of the replies are those of the records that were read
abbrev pub BytesAreOfRecords : Type 0
BytesAreOfRecords =
    (t : Tree) (es : List Entry) (id : ℕ) → IsLawfulFrom t es → bytes_read id es ≡ spelling (read_in t es id)

-- what was read of each instance since the cut, and what waits in it, are events: their values fit their types, and
-- their names are names. So the bytes that were read are the records of these events alone
pub record RecordsAreEvents (s : Journaled) : Type 0 where
  pub read : (id : ℕ) → AreEvents (read_in s.start s.entries id)
  pub waiting : WaitingAreEvents (now s).instances

-- ---- what becomes of an event

-- each event is kept, merged or lost, and the records that joined are those that were kept, in order, and marks
pub record AreAccountedFor (rs : List Raised) : Type 0 where
  pub fates : All (λ r. HasFate r.queue r.event (fate r)) rs
  pub count : length rs
      ≡ count_by (λ r. is_keeping (fate r)) rs
      + (count_by (λ r. is_merging (fate r)) rs + count_by (λ r. is_losing (fate r)) rs)
  pub order : filter (λ e. not (is_mark e)) (joined rs) ≡ events (filter (λ r. is_keeping (fate r)) rs)

-- the queue that each raised event found is what had joined, or waited at first, and was not read yet. So a lost event
-- has an unread mark behind it, or before it, and a mark joins only where all earlier ones were read
abbrev pub FindsTheUnread : Tree → List Entry → ℕ → Type 0
FindsTheUnread t es id =
    (front rest : List Entry) (e : Entry) (before later : List Raised) (r : Raised)
    → es ≡ front ++ e ∷ rest → raised_by (tree_after t front) e.call id ≡ before ++ r ∷ later
    → read_in t front id ++ r.queue.waiting
    ≡ waiting_of (instance_of t.instances id) ++ joined (raised_in t front id ++ before)

abbrev pub EventsFindTheUnread : Type 0
EventsFindTheUnread = (t : Tree) (es : List Entry) (id : ℕ) → IsSoundTree t → FindsTheUnread t es id

abbrev pub EventsAreAccountedFor : Type 0
EventsAreAccountedFor = (t : Tree) (es : List Entry) (id : ℕ) → IsSoundTree t → AreAccountedFor (raised_in t es id)

-- ---- instances that are not open

-- nothing is raised for an instance that was never made, and nothing is read of it
pub record IsUntouched (t : Tree) (es : List Entry) (id : ℕ) : Type 0 where
  pub raised : raised_in t es id ≡ []
  pub read : read_in t es id ≡ []

abbrev pub UnmadeInstancesHearNothing : Type 0
UnmadeInstancesHearNothing =
    (t : Tree) (es : List Entry) (id : ℕ) → IsSoundTree t → (tree_after t es).next_id ≤ id → IsUntouched t es id

-- an instance that is closed stays closed: nothing is raised for it any more, and nothing is read of it
abbrev pub ClosedInstancesHearNothing : Type 0
ClosedInstancesHearNothing =
    (t : Tree) (es : List Entry) (id : ℕ) → instance_of t.instances id ≡ None → id + 1 ≤ t.next_id → IsUntouched t es id
