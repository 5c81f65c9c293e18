use Rattle.std.proofs.Common.{◌≡◌, true}
use Rattle.event_sinks_tests.proofs.tests.puts.Given as goal

abbrev pub invariant-loop-fault : goal.invariant-loop-fault
invariant-loop-fault g l = g.S.Sink.is_open l.sink ≡ true
