use Rattle.std.proofs.Common.{[], if◌then◌else◌, sym}
use Rattle.std.proofs.lemmas.Result.{err_from_is_err_and}
use Rattle.inode_table.specs.TableWorld.{world_of}
use Rattle.inode_table.specs.World.{look}
use Rattle.tree_ops.specs.CallPaths.{path_of, other_path_of}
use Rattle.tree_ops.specs.Refused.{are_same_seen, move_rows, rename_rows, source_rows}
use Rattle.tree_ops.proofs.Rows.{first-refuses}
use Rattle.tree_ops.proofs.checking.check_rename.Goals as goal

pub returns-in_err-check_source-clause-err : goal.returns-in_err-check_source-clause-err
unfolding rename_rows
returns-in_err-check_source-clause-err c =
    let at = look (world_of c.args.paths.now.tree) in
    let old = path_of c.args.paths.now.call in
    let new = other_path_of c.args.paths.now.call in
    let last = if are_same_seen (at old) (at new) then [] else move_rows c.args.limits.now c.args.counts.now (at old) (at new) in
    let failed = err_from_is_err_and c.from_residual.result c.from_residual.ensures.1 in
    rw (failed.1, failed.2) (sym (first-refuses (source_rows at old new) last _ (sym c.in_err-check_source.ensures.err)))
