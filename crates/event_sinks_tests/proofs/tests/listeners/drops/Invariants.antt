use Rattle.event_sinks.specs.Listeners.{state_of_listener, IsSoundListener}
use Rattle.event_sinks_tests.proofs.tests.listeners.drops.Given as goal

abbrev pub invariant-loop : goal.invariant-loop
invariant-loop g l = IsSoundListener (state_of_listener g.S.Sink.record_list g.S.Sink.is_open l.listener)
