use Rattle.std.proofs.Common.{◌+◌}
use Rattle.watchtree_storm.proofs.Listening.{writes-handed}
use Rattle.watchtree_storm.proofs.course.run.Goals as goal

pub returns-clause-written : goal.returns-clause-written
returns-clause-written g c =
    let list = g.S.Sink.record_list in
    let ready = c.in_ok-ready.ready in
    let ended = c.in_ok-finished.finished.ended in (
      writes-handed list g.S.Sink.is_open g.S.Sink.page 1 1 (c.args.calls + 2) c.args.one ready.one ended.0
          c.in_ok-ready.ensures.listeners.0 c.in_ok-finished.ensures.one.2,
      writes-handed list g.S.Sink.is_open g.S.Sink.page 2 2 (c.args.calls + 2) c.args.other ready.other ended.1
          c.in_ok-ready.ensures.listeners.1 c.in_ok-finished.ensures.other.2,
    )
