use Rattle.std.proofs.Common.{◌≡◌, ◌≢◌, None}
use Rattle.event_sinks.specs.Listeners.{state_of_listener, AnswersBatches, IsSoundListener, Reaches}
use Rattle.event_sinks.specs.Pages.{WritesBatches}
use Rattle.event_sinks.proofs.listener.Listening.run.Given as goal

abbrev pub invariant-loop-turn : goal.invariant-loop-turn
invariant-loop-turn g l = record {
  sound : IsSoundListener (state_of_listener g.S.Sink.record_list g.S.Sink.is_open l.listener);
  reaches : Reaches (g.G.Gate.may_pass l.fn.gate) l.turn
      (state_of_listener g.S.Sink.record_list g.S.Sink.is_open l.fn.self)
      (state_of_listener g.S.Sink.record_list g.S.Sink.is_open l.listener);
  answers : l.fn.self.cause ≡ None → AnswersBatches g.S.Sink.record_list g.S.Sink.may_answer l.fn.self.intake l.listener.intake l.listener.cause;
  writes : l.fn.self.cause ≡ None → WritesBatches g.S.Sink.record_list g.S.Sink.page l.fn.self.intake l.listener.intake l.listener.cause;
  rests : l.fn.self.cause ≢ None → l.listener ≡ l.fn.self;
}
