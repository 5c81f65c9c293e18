use Rattle.std.proofs.Common.{rules}
use Rattle.watch_table.proofs.mask.Mask.next_bits.Goals as goal

pub returns-then-intersects : goal.returns-then-intersects
returns-then-intersects c = search rules
