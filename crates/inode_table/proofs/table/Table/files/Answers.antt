use Rattle.std.proofs.Common.{ap, rules, sym}
use Rattle.std.proofs.lemmas.List.Sorted.{IsNonDecreasingBy-from_sort_by_key}
use Rattle.inode_table.specs.declared.rows.FileRow.{FileRow}
use Rattle.inode_table.specs.TableWorld.{world_of}
use Rattle.inode_table.specs.Tree.{TableValue}
use Rattle.inode_table.proofs.FilesLemmas.{files-rows}
use Rattle.inode_table.proofs.table.Table.files.Goals as goal

pub returns-clause-world : goal.returns-clause-world
returns-clause-world c =
    let sort = c.sort_unstable_by_key.ensures in
    files-rows c.args.self.now (world_of c.args.self.now) c.self.inside.nodes c.in_ok-rows.rows.items c.sort_unstable_by_key.new.self.items
    (sym (ap (λ (t : TableValue). t.rows) c.self.view_is)) c.rows_law.ensures.stands c.in_ok-rows.ensures sort.permutation
    (IsNonDecreasingBy-from_sort_by_key (λ (row : FileRow). row.number) c.sort_unstable_by_key.new.self.items sort.sorted (λ a r q k. search rules))
