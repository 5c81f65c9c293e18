use Rattle.std.proofs.Common.{rules, ◌≡◌}
use Rattle.record_codec.specs.Equality.{events_eq}
use Rattle.record_codec.proofs.Equal.{same_events}
use Rattle.record_codec.proofs.lists.EventsPartialEq.eq.Goals as goal

pub returns-clause-same : goal.returns-clause-same
returns-clause-same c =
    let value : c.eq.result ≡ events_eq c.args.self.now c.args.other.now = search rules in
    same_events c.args.self.now c.args.other.now c.eq.result value
