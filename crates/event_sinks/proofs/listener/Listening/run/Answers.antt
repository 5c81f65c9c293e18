use Rattle.std.proofs.Common.{◌+◌, ap, arith, refl, rules}
use Rattle.event_sinks.specs.declared.listener.Cause.TheVariants.{Turns}
use Rattle.event_sinks.specs.Listeners.{ListenerState, state_of_listener}
use Rattle.event_sinks.proofs.Answering.{end_answers, turn_answers}
use Rattle.event_sinks.proofs.Paging.{end_writes, nothing_put, over_still, stays_over, turn_writes}
use Rattle.event_sinks.proofs.Hearing.{reaches_more, reaches_next}
use Rattle.event_sinks.proofs.listener.Listening.run.Goals as goal

pub returns-then-is_over_at-clause-turns : goal.returns-then-is_over_at-clause-turns
returns-then-is_over_at-clause-turns g c =
    let passes = g.G.Gate.may_pass c.args.gate.now in
    let old = state_of_listener g.S.Sink.record_list g.S.Sink.is_open c.args.self in
    let mid = state_of_listener g.S.Sink.record_list g.S.Sink.is_open c.loop-turn.listener in
    let new = state_of_listener g.S.Sink.record_list g.S.Sink.is_open c.is_over_at.new.self in
    let next = reaches_next passes c.loop-turn.turn old mid new c.loop-turn.invariant.reaches c.is_over_at.ensures.turn in
    (new, reaches_more passes (c.loop-turn.turn + 1) c.args.turns old new (omega arith) (c.is_over_at.ensures.over (search rules)) next, search rules)

pub returns-clause-turns : goal.returns-clause-turns
returns-clause-turns g c =
    let new = state_of_listener g.S.Sink.record_list g.S.Sink.is_open c.loop-turn.listener in
    (new, search rules, search rules)

pub returns-then-is_over_at-clause-answers : goal.returns-then-is_over_at-clause-answers
returns-then-is_over_at-clause-answers g c on =
    let list = g.S.Sink.record_list in
    let may = g.S.Sink.may_answer in
    let old = c.loop-turn.listener in
    let new = c.is_over_at.new.self in
    let last = c.end.result in
    let ended = c.end.ensures.ended in
    let turned =
    turn_answers list may c.args.self.intake.sink c.args.self.intake.handed.items old.intake.sink new.intake.sink
    old.intake.handed.items new.intake.handed.items (g.G.Gate.may_pass c.args.gate.now) c.loop-turn.turn
    old.cause new.cause (state_of_listener list g.S.Sink.is_open old)
    (state_of_listener list g.S.Sink.is_open new) refl refl refl refl refl refl c.is_over_at.ensures.turn
    (c.loop-turn.invariant.answers on) c.is_over_at.ensures.answers in
    end_answers list may c.args.self.intake.sink c.args.self.intake.handed.items new.intake.sink last.intake.sink
    new.intake.handed.items last.intake.handed.items new.cause last.cause Turns
    (ap (λ (h : ListenerState). h.handed) ended) (ap (λ (h : ListenerState). h.list) ended)
    (ap (λ (h : ListenerState). h.cause) ended) (λ records. tt) turned

pub returns-clause-answers : goal.returns-clause-answers
returns-clause-answers g c on =
    let list = g.S.Sink.record_list in
    let new = c.loop-turn.listener in
    let last = c.end-2.result in
    let ended = c.end-2.ensures.ended in
    end_answers list g.S.Sink.may_answer c.args.self.intake.sink c.args.self.intake.handed.items new.intake.sink
    last.intake.sink new.intake.handed.items last.intake.handed.items new.cause last.cause Turns
    (ap (λ (h : ListenerState). h.handed) ended) (ap (λ (h : ListenerState). h.list) ended)
    (ap (λ (h : ListenerState). h.cause) ended) (λ records. tt) (c.loop-turn.invariant.answers on)

pub loop-turn-preserved : goal.loop-turn-preserved
loop-turn-preserved g c =
    let list = g.S.Sink.record_list in
    let first = c.args.self in
    let old = c.loop-turn.listener in
    let new = c.is_over_at.new.self in
    let before = state_of_listener list g.S.Sink.is_open old in
    let after = state_of_listener list g.S.Sink.is_open new in
    let passes = g.G.Gate.may_pass c.args.gate.now in
    record {
      sound = c.is_over_at.ensures.sound;
      reaches =
          reaches_next passes c.loop-turn.turn (state_of_listener list g.S.Sink.is_open first) before after
          c.loop-turn.invariant.reaches c.is_over_at.ensures.turn;
      answers =
          λ on.
          turn_answers list g.S.Sink.may_answer first.intake.sink first.intake.handed.items old.intake.sink
          new.intake.sink old.intake.handed.items new.intake.handed.items passes c.loop-turn.turn old.cause
          new.cause before after refl refl refl refl refl refl c.is_over_at.ensures.turn
          (c.loop-turn.invariant.answers on) c.is_over_at.ensures.answers;
      writes =
          λ on.
          turn_writes list g.S.Sink.page first.intake.sink first.intake.handed.items old new old.cause refl
          (c.loop-turn.invariant.writes on) c.is_over_at.ensures.writes c.is_over_at.ensures.rests;
      rests = λ over. stays_over first old new (c.loop-turn.invariant.rests over) c.is_over_at.ensures.rests over;
    }

pub returns-then-is_over_at-clause-writes : goal.returns-then-is_over_at-clause-writes
returns-then-is_over_at-clause-writes g c on =
    let list = g.S.Sink.record_list in
    let page = g.S.Sink.page in
    let first = c.args.self in
    let old = c.loop-turn.listener in
    let new = c.is_over_at.new.self in
    let last = c.end.result in
    let ended = c.end.ensures.ended in
    let turned =
    turn_writes list page first.intake.sink first.intake.handed.items old new old.cause refl
    (c.loop-turn.invariant.writes on) c.is_over_at.ensures.writes c.is_over_at.ensures.rests in
    end_writes list page first.intake.sink first.intake.handed.items new last.intake.sink last.intake.handed.items
    new.cause last.cause Turns refl (ap (λ (h : ListenerState). h.handed) ended)
    (ap (λ (h : ListenerState). h.cause) ended) (nothing_put list page new.intake.sink) turned c.end.ensures.writes
    c.end.ensures.rests

pub returns-clause-writes : goal.returns-clause-writes
returns-clause-writes g c on =
    let list = g.S.Sink.record_list in
    let page = g.S.Sink.page in
    let first = c.args.self in
    let new = c.loop-turn.listener in
    let last = c.end-2.result in
    let ended = c.end-2.ensures.ended in
    end_writes list page first.intake.sink first.intake.handed.items new last.intake.sink last.intake.handed.items
    new.cause last.cause Turns refl (ap (λ (h : ListenerState). h.handed) ended)
    (ap (λ (h : ListenerState). h.cause) ended) (nothing_put list page new.intake.sink)
    (c.loop-turn.invariant.writes on) c.end-2.ensures.writes c.end-2.ensures.rests

pub returns-then-is_over_at-clause-rests : goal.returns-then-is_over_at-clause-rests
returns-then-is_over_at-clause-rests g c over =
    let first = c.args.self in
    let new = c.is_over_at.new.self in
    over_still first new c.end.result.intake.sink
    (stays_over first c.loop-turn.listener new (c.loop-turn.invariant.rests over) c.is_over_at.ensures.rests over)
    c.end.ensures.rests over

pub returns-clause-rests : goal.returns-clause-rests
returns-clause-rests g c over =
    over_still c.args.self c.loop-turn.listener c.end-2.result.intake.sink (c.loop-turn.invariant.rests over)
    c.end-2.ensures.rests over
