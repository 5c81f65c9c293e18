use Rattle.std.proofs.Common.{rules}
use Rattle.event_rules.proofs.subject.seen_watched.Goals as goal

pub returns : goal.returns
returns c = search rules
