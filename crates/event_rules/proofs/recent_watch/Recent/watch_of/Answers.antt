use Rattle.std.proofs.Common.{rules}
use Rattle.event_rules.proofs.recent_watch.Recent.watch_of.Goals as goal

pub returns-then-number-self-clause-watch : goal.returns-then-number-self-clause-watch
returns-then-number-self-clause-watch c = search rules
