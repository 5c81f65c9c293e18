use Rattle.std.proofs.Common.{◌≡◌, sym, ap, ◌∙◌, subst}
use Rattle.std.specs.Option.{option_and_then, IsSomeAnd}
use Rattle.std.specs.FinMap as finmap
use Rattle.inode_table.specs.TableWorld.{world_of}
use Rattle.inode_table.specs.World as world
use Rattle.tree_ops.specs.After.{bytes_at}
use Rattle.tree_ops.specs.CallPaths.{LookupValue}
use Rattle.tree_ops.proofs.Changed.{bytes-of}
use Rattle.tree_ops.proofs.lookup.Lookup.content.Goals as goal

pub returns : goal.returns
returns c =
    let w = world_of c.self.inside.table.now in
    let p = c.self.inside.path.now.names in
    let content = subst (λ o. IsSomeAnd o (λ (f : world.File). f.bytes ≡ c.content.result.now))
    (ap (option_and_then (finmap.get w.files)) c.key.ensures.found) c.content.ensures in
    sym (bytes-of w p c.content.result.now content) ∙ ap (λ (l : LookupValue). bytes_at (world_of l.tree) l.path.names) c.self.view_is
