use Rattle.std.proofs.Common.{◌≡◌, ◌+◌, take}
use Rattle.event_sinks.specs.Audited.{calls_of}
use Rattle.event_sinks.proofs.strays.are_as_many.Given as goal

abbrev pub invariant-loop-log : goal.invariant-loop-log
invariant-loop-log l = l.left + calls_of (take l.log-index l.logs) ≡ l.entries
