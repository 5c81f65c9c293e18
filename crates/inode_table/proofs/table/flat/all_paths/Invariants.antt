use Rattle.std.proofs.Common.{◌-◌, ◌^◌, reverse, vec_len}
use Rattle.inode_table.specs.Kept.{rows_of}
use Rattle.inode_table.proofs.FlatLemmas.{IsWalked}
use Rattle.inode_table.proofs.table.flat.all_paths.Given as goal

abbrev pub invariant-loop-path : goal.invariant-loop-path
invariant-loop-path l = IsWalked (rows_of l.nodes) l.found.items (reverse l.pending.items)

abbrev pub decreases-loop-path : goal.decreases-loop-path
decreases-loop-path l = 2 ^ 64 - vec_len l.found
