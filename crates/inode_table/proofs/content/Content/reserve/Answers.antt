use Rattle.std.proofs.Common.{rules}
use Rattle.inode_table.proofs.content.Content.reserve.Goals as goal

pub returns-in-Regular-2-clause-ok : goal.returns-in-Regular-2-clause-ok
returns-in-Regular-2-clause-ok c = search rules
