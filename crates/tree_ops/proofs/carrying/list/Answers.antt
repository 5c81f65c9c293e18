use Rattle.std.proofs.Common.{◌≡◌, true, sym, ap, ◌∙◌, subst}
use Rattle.std.specs.Option.{option_and_then, IsSomeAnd}
use Rattle.std.specs.FinMap as finmap
use Rattle.inode_table.specs.TableWorld.{world_of}
use Rattle.inode_table.specs.World as world
use Rattle.inode_table.specs.World.{look}
use Rattle.inode_table.specs.Refusals.{is_directory_seen}
use Rattle.tree_ops.specs.After.{names_in}
use Rattle.inode_table.specs.declared.seen.Kind.TheVariants.{Directory}
use Rattle.std.specs.Map.Iter.{deref}
use Rattle.std.proofs.lemmas.Map.Iter.{iter_end}
use Rattle.tree_ops.proofs.NamesIn.{names-are}
use Rattle.tree_ops.proofs.Worlds.{directory-seen}
use Rattle.tree_ops.proofs.carrying.list.Goals as goal

pub child_names-name-items-requires : goal.child_names-name-items-requires
child_names-name-items-requires c =
    let w = world_of c.table-table.result.now in
    let p = c.resolved.result.now.names in
    let directory : is_directory_seen (look w p) ≡ true =
    (λ i. is_directory_seen (look (world_of (c.table-table.ensures i)) (c.resolved.ensures.path i).names)) ∙ c.requires.directory in
    record {
      directory = subst (λ o. IsSomeAnd o (λ (f : world.File). f.kind ≡ Directory))
          (sym (ap (option_and_then (finmap.get w.files)) c.key.ensures.found)) (directory-seen w p directory);
    }

pub returns : goal.returns
returns c =
    let w = world_of c.table-table.result.now in
    let p = c.resolved.result.now.names in
    let yielded = iter_end deref _ c.loop-name.yielded _ _ _ _ c.into_iter-name-iterator.ensures.into_iter_gives
    c.loop-name.yielded_by c.in-None.is c.next.ensures.steps in
    let all : c.loop-name.names.items ≡ c.child_names-name-items.result = c.loop-name.invariant ∙ yielded.0 in
    c.from_vec.ensures ∙ all ∙ sym (names-are w p c.child_names-name-items.result (c.child_names-name-items.ensures.world p (sym c.key.ensures.found)))
    ∙ (λ i. names_in (world_of (c.table-table.ensures i)) (c.resolved.ensures.path i).names)
