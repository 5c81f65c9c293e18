use Rattle.event_sinks.specs.Listeners.{state_of_listener, IsSoundListener}
use Rattle.event_sinks_tests.proofs.tests.listeners.steps.Given as goal

abbrev pub invariant-loop-step : goal.invariant-loop-step
invariant-loop-step g l = IsSoundListener (state_of_listener g.S.Sink.record_list g.S.Sink.is_open l.listener)
