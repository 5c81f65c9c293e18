use Rattle.std.proofs.Common.{rules}
use Rattle.event_rules.proofs.telling.notices.Goals as goal

pub returns-clause-told : goal.returns-clause-told
returns-clause-told c = search rules
