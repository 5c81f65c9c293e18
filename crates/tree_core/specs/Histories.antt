-- What the calls of a journal raise for an instance, what becomes of it, and what is read.
use Rattle.std.specs.Prelude.{ℕ, Bool, true, false, ◌==◌, List, [], ◌∷◌, ◌++◌, Option, Some, None, is_none, map}
use Rattle.std.specs.Prelude.{if◌then◌else◌}
use Rattle.std.specs.List.{flat_map}
use Rattle.record_codec.specs.declared.event.Event.{Event}
use Rattle.tree_paths.specs.declared.refusal.Refusal.{Refusal}
use Rattle.event_queue.specs.declared.offered.Offered.{Offered}
use Rattle.event_queue.specs.declared.offered.Offered.TheVariants.{Kept, Merged, Marked, Lost}
use Rattle.event_queue.specs.Backlogs.{Backlog, offered, joining, after_offer}
use Rattle.event_rules.specs.Table.{notices_of}
use Rattle.event_rules.specs.Raised.{events_of, ignored}
use Rattle.instance_table.specs.declared.instance.Instance.{Instance}
use Rattle.instance_table.specs.Instances.{instance_of}
use Rattle.tree_core.specs.declared.call.Call.{Call}
use Rattle.tree_core.specs.declared.call.Call.TheVariants as call
use Rattle.tree_core.specs.declared.reply.Entry.{Entry}
use Rattle.tree_core.specs.Tree.{Tree, cookie_now, oldest, refusal_of, after}

-- ---- one call, and one open instance

-- these, where a call is accepted and the instance is open
abbrev pub where_open : {A : Type 0} → Option Refusal → Option Instance → (Instance → List A) → List A
where_open (Some refusal) o f = []
where_open None None f = []
where_open None (Some i) f = f i

abbrev pub if_same : {A : Type 0} → ℕ → ℕ → List A → List A
if_same id other xs = if id == other then xs else []

-- the events that an accepted call raises for an open instance: inotify(7), "inotify events", and inotify_rm_watch(2)
abbrev pub events_for : Tree → Call → ℕ → Instance → List Event
events_for t (call.File f) id i = events_of i.watches (notices_of t.world f (cookie_now t.next_cookie))
events_for t (call.RmWatch from wd) id i = if_same from id (ignored wd ∷ [])
events_for t _ id i = []

-- the records that an accepted call reads of an open instance
abbrev pub records_for : Call → ℕ → Instance → List Event
records_for (call.Read from bytes) id i = if_same from id (oldest bytes i)
records_for (call.Pump from bytes) id i = if_same from id (oldest bytes i)
records_for _ id i = []

-- an event that was raised, and the queue that it found
pub record Raised : Type 0 where
  pub queue : Backlog
  pub event : Event

-- events one after another: each finds the queue that the one before it left
abbrev pub raised_to : Backlog → List Event → List Raised
raised_to b [] = []
raised_to b (e ∷ es) = record { queue = b; event = e } ∷ raised_to (after_offer b e) es

-- what a call raises for the instance of a number
unfoldable pub raised_by : Tree → Call → ℕ → List Raised
raised_by t c id =
    where_open (refusal_of t c) (instance_of t.instances id) (λ i. raised_to i.queue (events_for t c id i))

-- the records that a call reads of the instance of a number
unfoldable pub read_by : Tree → Call → ℕ → List Event
read_by t c id = where_open (refusal_of t c) (instance_of t.instances id) (records_for c id)

-- the records that a pump hands over, where it is not refused
abbrev pub pumped : Tree → ℕ → ℕ → Option (List Event)
pumped t id bytes =
    if is_none (refusal_of t (call.Pump id bytes)) then Some (read_by t (call.Pump id bytes) id) else None

-- ---- a journal, from a tree on

-- all that its calls raise for an instance, in order
abbrev pub raised_in : Tree → List Entry → ℕ → List Raised
raised_in t [] id = []
raised_in t (e ∷ es) id = raised_by t e.call id ++ raised_in (after t e.call) es id

-- all records that its calls read of an instance, in order
abbrev pub read_in : Tree → List Entry → ℕ → List Event
read_in t [] id = []
read_in t (e ∷ es) id = read_by t e.call id ++ read_in (after t e.call) es id

-- ---- what becomes of what was raised

-- whether an event is kept, merged, or lost with a new mark or behind one that waits
abbrev pub fate : Raised → Offered
fate r = offered r.queue.limit r.queue.waiting r.event

abbrev pub is_keeping : Offered → Bool
is_keeping Kept = true
is_keeping _ = false

abbrev pub is_merging : Offered → Bool
is_merging Merged = true
is_merging _ = false

-- an event is also lost if a mark joins instead of it
abbrev pub is_losing : Offered → Bool
is_losing Marked = true
is_losing Lost = true
is_losing _ = false

-- the events that were raised
abbrev pub events : List Raised → List Event
events rs = map (λ r. r.event) rs

-- the records that joined the queue
abbrev pub joined : List Raised → List Event
joined rs = flat_map (λ r. joining (fate r) r.event) rs
