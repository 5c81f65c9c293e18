use Rattle.std.proofs.Common.{rules}
use Rattle.event_rules.proofs.staged.stage.Goals as goal

pub returns-clause-drops : goal.returns-clause-drops
returns-clause-drops c = search rules

pub returns-clause-events : goal.returns-clause-events
returns-clause-events c = search rules
