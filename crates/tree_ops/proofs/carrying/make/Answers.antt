use Rattle.std.proofs.Common.{[], ap, ◌∙◌}
use Rattle.std.specs.FinMap as finmap
use Rattle.std.proofs.lemmas.Result.{err_from_is_err_and}
use Rattle.inode_table.specs.Tree.{TableValue}
use Rattle.inode_table.specs.Refusals.{is_directory_seen, parent_of}
use Rattle.inode_table.specs.TableWorld.{world_in}
use Rattle.inode_table.specs.World.{look, with_file}
use Rattle.tree_ops.proofs.carrying.make.Goals as goal

pub add_node-requires-clause-resolved : goal.add_node-requires-clause-resolved
add_node-requires-clause-resolved c = c.reserve_node.ensures.resolved c.args.path.now c.requires.resolved

pub add_node-requires-clause-directory : goal.add_node-requires-clause-directory
add_node-requires-clause-directory c =
    ap (λ rs. is_directory_seen (look (world_in rs) (parent_of c.args.path.now.names))) c.reserve_node.ensures.rows ∙ c.requires.directory

pub add_node-requires-clause-free : goal.add_node-requires-clause-free
add_node-requires-clause-free c = ap (λ rs. look (world_in rs) c.args.path.now.names) c.reserve_node.ensures.rows ∙ c.requires.free

pub add_node-requires-clause-unused : goal.add_node-requires-clause-unused
add_node-requires-clause-unused c = ap (λ rs. finmap.get (world_in rs).files c.args.number) c.reserve_node.ensures.rows ∙ c.requires.unused

pub returns-clause-world : goal.returns-clause-world
returns-clause-world c =
    c.in_ok-add_node.ensures.world
    ∙ ap (λ rs. with_file (world_in rs) c.args.path.now.names c.args.number (record { kind = c.args.kind; mode = c.args.mode; bytes = [] }))
    c.reserve_node.ensures.rows

pub returns-in_err-add_node-clause-err : goal.returns-in_err-add_node-clause-err
returns-in_err-add_node-clause-err c =
    let failed = err_from_is_err_and c.from_residual-in_err-add_node.result c.from_residual-in_err-add_node.ensures.1 in
    rw failed.1 (ap (λ (t : TableValue). t.rows) c.in_err-add_node.ensures.err ∙ c.reserve_node.ensures.rows)
