use Rattle.std.proofs.Common.{◌≡◌, Some, sym, ap, ◌∙◌}
use Rattle.inode_table.specs.Refusals.{parent_of}
use Rattle.inode_table.specs.Resolution.{ResolvedPath}
use Rattle.inode_table.specs.Tree.{at}
use Rattle.inode_table.proofs.ResolutionLemmas.{found-key, found-there}
use Rattle.inode_table.proofs.table.Table.lookup_parent.Goals as goal

pub seen_under-requires : goal.seen_under-requires
seen_under-requires c =
    let t = c.args.self.now in
    let there : at t (parent_of c.args.path.now.names) ≡ Some c.in-Ok.directory =
    found-key t c.rows_law.ensures.table (parent_of c.args.path.now.names) c.args.path.now.directory c.in-Ok.directory
    c.requires.resolved.directory (sym (ap (λ (p : ResolvedPath). p.directory) c.path.view_is) ∙ sym c.get.ensures ∙ c.in-Ok.is) in
    record { there = found-there t c.rows_law.ensures.table (parent_of c.args.path.now.names) c.in-Ok.directory there }
