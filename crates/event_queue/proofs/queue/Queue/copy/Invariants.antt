use Rattle.std.proofs.Common.{◌≡◌, ◌++◌}
use Rattle.event_queue.proofs.queue.Queue.copy.Given as goal

abbrev pub invariant-loop-event : goal.invariant-loop-event
invariant-loop-event l = record {
  next : (goal.iterator-loop-event).can_next l.event-iterator;
  finite : (goal.iterator-loop-event).is_finite l.event-iterator;
  items : l.records.items ++ l.event-iterator ≡ l.self-inside.records.items;
  capacity : l.records.capacity ≡ l.self-inside.records.capacity;
}
