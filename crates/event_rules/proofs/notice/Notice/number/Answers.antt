use Rattle.std.proofs.Common.{rules}
use Rattle.event_rules.proofs.notice.Notice.number.Goals as goal

pub returns-in-Gone : goal.returns-in-Gone
returns-in-Gone c = search rules
