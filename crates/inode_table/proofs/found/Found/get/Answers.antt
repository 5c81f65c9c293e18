use Rattle.std.proofs.Common.{rules}
use Rattle.inode_table.proofs.found.Found.get.Goals as goal

pub returns-in-0 : goal.returns-in-0
returns-in-0 c = search rules
