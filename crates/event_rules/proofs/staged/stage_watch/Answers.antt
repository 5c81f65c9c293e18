use Rattle.std.proofs.Common.{rules}
use Rattle.event_rules.proofs.staged.stage_watch.Goals as goal

pub returns-in_ok-push-clause-events : goal.returns-in_ok-push-clause-events
returns-in_ok-push-clause-events c = search rules

pub returns-else-branch-clause-events : goal.returns-else-branch-clause-events
returns-else-branch-clause-events c = search rules
