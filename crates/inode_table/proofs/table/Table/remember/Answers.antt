use Rattle.std.proofs.Common.{◌≡◌, Some, sym, ap, ◌∙◌}
use Rattle.tree_paths.specs.Paths.{names_of}
use Rattle.inode_table.specs.Kept.{rows_of}
use Rattle.inode_table.specs.Rows.{child}
use Rattle.inode_table.specs.Walk.{walk}
use Rattle.inode_table.proofs.RecentLemmas.{Remembers-keep}
use Rattle.inode_table.proofs.table.Table.remember.Goals as goal

pub invariant_of-self : goal.invariant_of-self
invariant_of-self c =
    let rows = rows_of c.self.inside.nodes in
    let there : walk (child rows) 0 (names_of c.args.text.now) ≡ Some c.args.key =
    ap (λ t. walk (child t.rows) 0 (names_of c.args.text.now)) c.self.view_is ∙ c.requires.there in
    record {
      table = c.self.invariant.table;
      recent = Remembers-keep rows (names_of c.args.text.now) c.args.key there (sym c.if-is_directory.ensures) c.keep.ensures c.self.invariant.recent;
    }
