use Rattle.std.proofs.Common.{arith}
use Rattle.std.proofs.lemmas.Grind.{common_steps}
use Rattle.inode_table.proofs.table.Table.node.Goals as goal

pub returns : goal.returns
returns c = grind (arith, common_steps)
