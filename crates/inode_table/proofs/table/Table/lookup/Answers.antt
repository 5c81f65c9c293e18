use Rattle.std.proofs.Common.{◌≡◌, Some, sym, ap, ◌∙◌}
use Rattle.inode_table.specs.Resolution.{ResolvedPath}
use Rattle.inode_table.specs.Tree.{at}
use Rattle.inode_table.proofs.ResolutionLemmas.{found-key, found-there}
use Rattle.inode_table.proofs.table.Table.lookup.Goals as goal

pub seen_under-requires : goal.seen_under-requires
seen_under-requires c =
    let t = c.args.self.now in
    let there : at t c.args.path.now.names ≡ Some c.in-Ok.key =
    found-key t c.rows_law.ensures.table c.args.path.now.names c.args.path.now.here c.in-Ok.key c.requires.resolved.here
    (sym (ap (λ (p : ResolvedPath). p.here) c.path.view_is) ∙ sym c.get.ensures ∙ c.in-Ok.is) in
    record { there = found-there t c.rows_law.ensures.table c.args.path.now.names c.in-Ok.key there }
