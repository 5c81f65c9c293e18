use Rattle.std.proofs.Common.{rules}
use Rattle.inode_table.proofs.recent_directory.slots_within.Goals as goal

pub returns-in-4-to-7 : goal.returns-in-4-to-7
returns-in-4-to-7 c = search rules
