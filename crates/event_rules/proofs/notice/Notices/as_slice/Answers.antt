use Rattle.std.proofs.Common.{rules}
use Rattle.event_rules.proofs.notice.Notices.as_slice.Goals as goal

pub returns : goal.returns
returns c = search rules
