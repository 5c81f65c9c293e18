use Rattle.std.proofs.Common.{◌≡◌, ℕ, ◌++◌, map}
use Rattle.inode_table.specs.declared.node.Node.{Node}
use Rattle.inode_table.specs.Kept.{row_of}
use Rattle.inode_table.specs.Listing.{row_shown}
use Rattle.inode_table.specs.Rows.{shown}
use Rattle.slab.specs.Slab.{entries}
use Rattle.inode_table.proofs.table.files.all_files.Given as goal

abbrev pub invariant-loop-node : goal.invariant-loop-node
invariant-loop-node l =
    l.files.items ++ map (λ (e : ℕ × Node). row_shown (shown (row_of e.1))) l.node-iterator
    ≡ map (λ (e : ℕ × Node). row_shown (shown (row_of e.1))) (entries l.nodes)
