-- A queue as the list of all records that ever joined it, and the number of them that were read. The records from that
-- index on are unread.
use Rattle.std.specs.Prelude.{◌≡◌, ℕ, ◌+◌, ◌-◌, ◌<◌, ◌≤◌, List, [], ◌∷◌, ◌++◌, length, take, drop, slice_get, Some}
use Rattle.record_codec.specs.declared.event.Event.{Event}
use Rattle.event_queue.specs.declared.offered.Offered.{Offered}
use Rattle.event_queue.specs.declared.offered.Offered.TheVariants.{Kept, Merged, Marked, Lost}
use Rattle.event_queue.specs.Backlogs.{Backlog, offered, overflow_mark, joining, after_offer, after_take}

-- all records that joined, the first one first, and how many of them were read
pub record History : Type 0 where
  pub joined : List Event
  pub read : ℕ

-- a queue holds what joined, from the read count on
pub record Holds (h : History) (waiting : List Event) : Type 0 where
  pub within : h.read ≤ length h.joined
  pub rest : drop h.read h.joined ≡ waiting

-- the last record that joined is not read yet, and the event is identical to it
abbrev pub Repeats : History → Event → Type 0
Repeats h e = (h.read < length h.joined) × (slice_get h.joined (length h.joined - 1) ≡ Some e)

-- as many records as the limit wait
abbrev pub IsFull : ℕ → History → Type 0
IsFull limit h = limit ≤ length h.joined - h.read

-- a mark stands at the read count or behind it
abbrev pub IsMarked : History → Type 0
IsMarked h = (at : ℕ) × (h.read ≤ at) × (slice_get h.joined at ≡ Some overflow_mark)

abbrev pub with_record : History → Event → History
with_record h e = record h { joined = h.joined ++ e ∷ [] }

abbrev pub with_read : History → ℕ → History
with_read h k = record h { read = h.read + k }

-- what becomes of an event, and of the history: a repeated one is merged; of others one that finds the queue full is
-- lost, and a mark joins unless one stands unread; any other one is kept
pub record Befalls (limit : ℕ) (h : History) (e : Event) (answer : Offered) (next : History) : Type 0 where
  pub merged : Repeats h e → (answer ≡ Merged) × (next ≡ h)
  pub kept : ¬ Repeats h e → ¬ IsFull limit h → (answer ≡ Kept) × (next ≡ with_record h e)
  pub marked : ¬ Repeats h e → IsFull limit h → ¬ IsMarked h → (answer ≡ Marked) × (next ≡ with_record h overflow_mark)
  pub lost : ¬ Repeats h e → IsFull limit h → IsMarked h → (answer ≡ Lost) × (next ≡ h)

-- the history once a record joined, or none
abbrev pub with_joined : History → List Event → History
with_joined h records = record h { joined = h.joined ++ records }

-- a queue goes on holding what its history says
pub record FollowsHistory (b : Backlog) (h : History) : Type 0 where
  pub befalls : (e : Event)
      → let answer = offered b.limit b.waiting e in Befalls b.limit h e answer (with_joined h (joining answer e))
  pub offers : (e : Event) → Holds (with_joined h (joining (offered b.limit b.waiting e) e)) (after_offer b e).waiting
  pub takes : 0 < length b.waiting → Holds (with_read h 1) (after_take b).waiting
  pub reads : (k : ℕ) → k ≤ length b.waiting → Holds (with_read h k) (drop k b.waiting)
  pub peeks : (i : ℕ) → slice_get b.waiting i ≡ slice_get h.joined (h.read + i)
  pub len : length b.waiting ≡ length h.joined - h.read
  pub order : take h.read h.joined ++ b.waiting ≡ h.joined
