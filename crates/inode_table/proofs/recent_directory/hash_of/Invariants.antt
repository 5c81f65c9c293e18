use Rattle.std.proofs.Common.{length}
use Rattle.inode_table.proofs.recent_directory.hash_of.Given as goal

abbrev pub decreases-loop-word : goal.decreases-loop-word
decreases-loop-word l = length l.rest
