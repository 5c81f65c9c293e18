use Rattle.std.proofs.Common.{rules}
use Rattle.inode_table.proofs.content.Content.set_len.Goals as goal

pub returns-clause-bytes : goal.returns-clause-bytes
returns-clause-bytes c = search rules
