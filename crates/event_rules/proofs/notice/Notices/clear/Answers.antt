use Rattle.std.proofs.Common.{rules}
use Rattle.event_rules.proofs.notice.Notices.clear.Goals as goal

pub returns : goal.returns
returns c = search rules
