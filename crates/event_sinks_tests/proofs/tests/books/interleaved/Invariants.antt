use Rattle.event_sinks.specs.Listeners.{state_of_listener, IsSoundListener}
use Rattle.event_sinks_tests.proofs.tests.books.interleaved.Given as goal

abbrev pub invariant-loop-byte : goal.invariant-loop-byte
invariant-loop-byte g l = IsSoundListener (state_of_listener g.S.Sink.record_list g.S.Sink.is_open l.listener)
