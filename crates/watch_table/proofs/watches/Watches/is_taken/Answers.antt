use Rattle.std.proofs.Common.{rules}
use Rattle.watch_table.proofs.watches.Watches.is_taken.Goals as goal

pub returns-then-intersects : goal.returns-then-intersects
returns-then-intersects c = search rules
