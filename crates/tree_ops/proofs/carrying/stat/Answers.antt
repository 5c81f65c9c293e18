use Rattle.std.proofs.Common.{◌≡◌, sym, ap, ◌∙◌, subst}
use Rattle.std.specs.Option.{option_and_then, option_map, IsSomeAnd}
use Rattle.std.specs.FinMap as finmap
use Rattle.inode_table.specs.TableWorld.{world_of}
use Rattle.inode_table.specs.World as world
use Rattle.inode_table.specs.World.{links}
use Rattle.tree_ops.specs.After.{stat_of}
use Rattle.tree_ops.proofs.Told.{stat-told, same-some}
use Rattle.tree_ops.proofs.carrying.stat.Goals as goal

pub returns : goal.returns
returns c =
    let t = c.table-table.result.now in
    let w = world_of t in
    let p = c.resolved.result.now.names in
    let found = c.key-key.ensures.found in
    let file = ap (option_and_then (finmap.get w.files)) found in
    stat-told w p c.number.result c.kind.result c.mode.result c.links.result c.content.result.now
    (sym found ∙ c.number.ensures)
    (subst (λ o. IsSomeAnd o (λ (f : world.File). f.kind ≡ c.kind.result)) file c.kind.ensures)
    (subst (λ o. IsSomeAnd o (λ (f : world.File). f.mode ≡ c.mode.result)) file c.mode.ensures)
    (same-some _ _ (ap (option_map (links w)) (sym c.number.ensures) ∙ c.links.ensures))
    (subst (λ o. IsSomeAnd o (λ (f : world.File). f.bytes ≡ c.content.result.now)) file c.content.ensures)
    ∙ (λ i. stat_of (world_of (c.table-table.ensures i)) (c.resolved.ensures.path i).names)
