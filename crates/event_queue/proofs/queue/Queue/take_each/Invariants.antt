use Rattle.std.proofs.Common.{◌≡◌, drop}
use Rattle.event_queue.proofs.queue.Queue.take_each.Given as goal

abbrev pub invariant-loop : goal.invariant-loop
invariant-loop l = l.self ≡ record l.initial.self { waiting = drop l.counter l.initial.self.waiting }
