use Rattle.std.proofs.Common.{◌∙◌, ap, sym}
use Rattle.inode_table.specs.Flat.{number_under}
use Rattle.inode_table.specs.Kept.{rows_of}
use Rattle.inode_table.specs.TableWorld.{world_of}
use Rattle.inode_table.specs.Tree.{TableValue}
use Rattle.inode_table.proofs.FlatLemmas.{flat-entries}
use Rattle.inode_table.proofs.table.Table.flat.Goals as goal

pub returns-clause-world : goal.returns-clause-world
returns-clause-world c =
    let stands = c.rows_law.ensures.stands in
    flat-entries (rows_of c.self.inside.nodes) c.in_ok-all_paths.field-0.items (world_of c.args.self.now).paths c.in_ok-all_paths.ensures
    (λ p. ap (λ (t : TableValue). number_under t.rows p) c.self.view_is ∙ sym (stands.paths p))
