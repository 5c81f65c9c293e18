use Rattle.std.proofs.Common.{ℕ}
use Rattle.inode_table.specs.declared.node.Node.{Node}
use Rattle.inode_table.specs.Kept.{row_of}
use Rattle.inode_table.specs.Listing.{row_shown}
use Rattle.inode_table.specs.Rows.{shown}
use Rattle.inode_table.proofs.FilesLemmas.{rows-turn}
use Rattle.inode_table.proofs.table.files.all_files.Goals as goal

pub loop-node-preserved : goal.loop-node-preserved
loop-node-preserved c =
    rows-turn (λ (e : ℕ × Node). row_shown (shown (row_of e.1))) c.loop-node.files.items c.push.new.self.items _ c.loop-node.node-iterator c.next.new.self
    (c.in-Some.field-0-0, c.in-Some.node.now) c.in_ok-file.field-0 c.loop-node.invariant c.in-Some.ensures.steps c.in_ok-push.ensures.items c.in_ok-file.ensures
