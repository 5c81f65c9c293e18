use Rattle.std.proofs.Common.{ap}
use Rattle.std.specs.Option.{option_map}
use Rattle.inode_table.specs.Rows.{What, shown}
use Rattle.inode_table.proofs.table.Table.number.Goals as goal

pub returns : goal.returns
returns c = ap (λ o. option_map (λ (v : What). v.number) (option_map shown o)) c.node.ensures
