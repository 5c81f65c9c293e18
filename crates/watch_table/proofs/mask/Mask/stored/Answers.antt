use Rattle.std.proofs.Common.{rules}
use Rattle.watch_table.proofs.mask.Mask.stored.Goals as goal

pub returns : goal.returns
returns c = search rules
