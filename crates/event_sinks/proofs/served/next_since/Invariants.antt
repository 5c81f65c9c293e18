use Rattle.std.proofs.Common.{◌≡◌, drop}
use Rattle.event_sinks.specs.Audited.{since}
use Rattle.event_sinks.proofs.served.next_since.Given as goal

abbrev pub invariant-loop-at : goal.invariant-loop-at
invariant-loop-at l = since l.cut (drop l.at l.handed) ≡ since l.cut (drop l.from l.handed)
