use Rattle.std.proofs.Common.{rules}
use Rattle.inode_table.proofs.recent_directory.forget_directory.Goals as goal

pub returns-then-is_directory : goal.returns-then-is_directory
returns-then-is_directory c p k at = absurd (c.forget.ensures p k at)

pub returns-else-is_directory : goal.returns-else-is_directory
returns-else-is_directory c = search rules
