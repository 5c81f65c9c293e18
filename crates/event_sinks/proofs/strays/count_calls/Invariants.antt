use Rattle.std.proofs.Common.{◌≡◌, take, min}
use Rattle.event_sinks.specs.Audited.{calls_of}
use Rattle.event_sinks.proofs.strays.count_calls.Given as goal

abbrev pub invariant-loop-log : goal.invariant-loop-log
invariant-loop-log l = l.calls ≡ min (calls_of (take l.log-index l.logs)) 18446744073709551615
