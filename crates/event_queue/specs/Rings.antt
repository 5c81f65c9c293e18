-- How a ring of records shows as what waits. No public clause cites this module.
use Rattle.std.specs.Prelude.{◌≡◌, ◌+◌, ◌<◌, ◌≤◌, length}
use Rattle.event_queue.specs.Backlogs.{Backlog, IsLimit, marks}
use Rattle.event_queue.specs.declared.queue.Queue.TheInside.{Inside}

abbrev pub backlog_of : Inside → Backlog
backlog_of q = record { limit = q.limit; waiting = q.records.items }

-- the slot beyond the limit is in use only while a mark waits, so it is free for a mark that joins
pub record IsRing (q : Inside) : Type 0 where
  pub limit : IsLimit q.limit
  pub capacity : q.records.capacity ≡ q.limit + 1
  pub marks : q.marks ≡ marks q.records.items
  pub within : length q.records.items ≤ q.limit + 1
  pub room : q.limit < length q.records.items → 0 < q.marks
