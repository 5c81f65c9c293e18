use Rattle.std.proofs.Common.{◌+◌, ◌-◌, ◌≤◌, ◌≡◌, length}
use Rattle.event_queue.specs.Reads.{fitting}
use Rattle.event_queue.proofs.ReadLemmas.{taken}
use Rattle.event_queue.proofs.queue.Queue.fit_len.Given as goal

abbrev pub invariant-loop-event : goal.invariant-loop-event
invariant-loop-event l = record {
  next : (goal.iterator-loop-event).can_next l.event-iterator;
  finite : (goal.iterator-loop-event).is_finite l.event-iterator;
  all : l.fit.count + length l.event-iterator ≡ length l.self.waiting;
  rest : fitting l.bytes l.self.waiting ≡ l.fit.count + fitting (l.bytes - l.fit.len) l.event-iterator;
  within : l.fit.len ≤ l.bytes;
  taken : taken l.bytes l.self.waiting ≡ l.fit.len + taken (l.bytes - l.fit.len) l.event-iterator;
}
