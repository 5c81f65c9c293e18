use Rattle.std.proofs.Common.{rules}
use Rattle.inode_table.proofs.recent_directory.Slot.set.Goals as goal

pub returns-clause-len : goal.returns-clause-len
returns-clause-len c = search rules
