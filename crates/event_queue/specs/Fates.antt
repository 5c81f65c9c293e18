-- What may be relied on, whatever is raised and read: nothing is lost unsaid, and a queue keeps its bounds.
use Rattle.std.specs.Prelude.{◌≡◌, ◌≢◌, ℕ, ◌+◌, ◌-◌, ◌<◌, ◌≤◌, [], ◌∷◌, ◌++◌, length, drop, slice_get, Some, Contains}
use Rattle.record_codec.specs.declared.event.Event.{Event}
use Rattle.event_queue.specs.declared.offered.Offered.{Offered}
use Rattle.event_queue.specs.declared.offered.Offered.TheVariants.{Kept, Merged, Marked, Lost}
use Rattle.event_queue.specs.Backlogs.{Backlog, overflow_mark, marks, after_offer}

-- what an event's fate means: a kept one waits behind all others; the record that stands for a merged one waits last;
-- once one was lost, a mark waits, and a mark that joins is the only one
pub record HasFate (b : Backlog) (e : Event) (answer : Offered) : Type 0 where
  pub kept : answer ≡ Kept → (after_offer b e).waiting ≡ b.waiting ++ e ∷ []
  pub merged : answer ≡ Merged → (slice_get b.waiting (length b.waiting - 1) ≡ Some e) × (after_offer b e ≡ b)
  pub marked : answer ≡ Marked → (marks b.waiting ≡ 0) × ((after_offer b e).waiting ≡ b.waiting ++ overflow_mark ∷ [])
  pub lost : answer ≡ Lost → Contains b.waiting overflow_mark × (after_offer b e ≡ b)

-- at most limit + 1 records wait, and at most one of them is a mark; one waits wherever there are more than the limit
pub record IsBounded (b : Backlog) : Type 0 where
  pub room : length b.waiting ≤ b.limit + 1
  pub one_mark : marks b.waiting ≤ 1
  pub beyond : b.limit < length b.waiting → 0 < marks b.waiting

-- a queue begins within its bounds, and stays there; no watch raises an event that is the mark
pub record KeepsBounds (b : Backlog) : Type 0 where
  pub begins : IsBounded (record b { waiting = [] })
  pub offers : (e : Event) → e ≢ overflow_mark → IsBounded b → IsBounded (after_offer b e)
  pub reads : (k : ℕ) → IsBounded b → IsBounded (record b { waiting = drop k b.waiting })
