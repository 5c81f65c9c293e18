use Rattle.std.proofs.Common.{rules}
use Rattle.event_rules.proofs.staged.Staged.clear.Goals as goal

pub returns-clause-drops : goal.returns-clause-drops
returns-clause-drops c = search rules
