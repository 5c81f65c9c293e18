use Rattle.std.proofs.Common.{ap, ◌∙◌, sym}
use Rattle.tree_paths.specs.Paths.{names_of}
use Rattle.inode_table.specs.Kept.{rows_of}
use Rattle.inode_table.specs.Refusals.{parent_of}
use Rattle.inode_table.specs.Rows.{child}
use Rattle.inode_table.specs.Walk.{walk}
use Rattle.inode_table.proofs.table.Table.resolve_recent.Goals as goal

pub resolve_last-requires-in-Some-find-clause-there : goal.resolve_last-requires-in-Some-find-clause-there
resolve_last-requires-in-Some-find-clause-there c =
    let directory = c.in-Some-find.directory in
    let known = c.find.ensures directory c.in-Some-find.is in
    ap (λ t. walk (child t.rows) 0 (parent_of c.args.path.now)) (sym c.self.view_is)
    ∙ ap (walk (child (rows_of c.self.inside.nodes)) 0) (sym c.in-Some.ensures.text.front)
    ∙ c.self.invariant.recent.there (names_of c.in-Some.text.now) directory known
