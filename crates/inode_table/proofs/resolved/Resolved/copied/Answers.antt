use Rattle.std.proofs.Common.{rules}
use Rattle.inode_table.proofs.resolved.Resolved.copied.Goals as goal

pub returns : goal.returns
returns c = search rules
