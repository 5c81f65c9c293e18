use Rattle.std.proofs.Common.{rules}
use Rattle.watch_table.proofs.mask.Mask.fault.Goals as goal

pub returns-then-not-intersects : goal.returns-then-not-intersects
returns-then-not-intersects c = search rules
