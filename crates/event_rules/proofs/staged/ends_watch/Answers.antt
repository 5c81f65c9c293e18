use Rattle.std.proofs.Common.{rules}
use Rattle.event_rules.proofs.staged.ends_watch.Goals as goal

pub returns-then-asks_for : goal.returns-then-asks_for
returns-then-asks_for c = search rules
