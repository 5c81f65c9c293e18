use Rattle.std.proofs.Common.{rules}
use Rattle.inode_table.proofs.table.Table.grown_recent.Goals as goal

pub returns-clause-err : goal.returns-clause-err
returns-clause-err c = search rules
