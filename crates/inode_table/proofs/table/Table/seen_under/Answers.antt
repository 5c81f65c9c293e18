use Rattle.std.proofs.Common.{rules}
use Rattle.inode_table.proofs.table.Table.seen_under.Goals as goal

pub returns : goal.returns
returns c = search rules
