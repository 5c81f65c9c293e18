use Rattle.std.proofs.Common.{◌≡◌, sym, subst}
use Rattle.std.specs.Option.{IsSomeAnd}
use Rattle.inode_table.specs.Kept.{row_of}
use Rattle.inode_table.specs.World as world
use Rattle.inode_table.proofs.TableWorldLemmas.{file-under}
use Rattle.inode_table.proofs.table.Table.content.Goals as goal

pub returns : goal.returns
returns c =
    subst (λ o. IsSomeAnd o (λ (f : world.File). f.bytes ≡ c.bytes.result.now))
    (sym (file-under c.rows_law.ensures.stands c.args.key (row_of c.node.result.now) c.node.ensures)) (sym c.bytes.ensures)
