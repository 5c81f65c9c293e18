use Rattle.std.proofs.Common.{None, sym, ap, ◌∙◌}
use Rattle.std.specs.Prelude.{Ok}
use Rattle.std.proofs.lemmas.Result.{err_from_is_err_and}
use Rattle.inode_table.specs.Refusals.{find}
use Rattle.inode_table.specs.TableWorld.{world_of}
use Rattle.inode_table.specs.World.{look}
use Rattle.tree_ops.specs.declared.call.FileCall.TheVariants.{Stat}
use Rattle.tree_ops.specs.After.{stat_of}
use Rattle.tree_ops.proofs.Answering.{by-refusal, stat-row}
use Rattle.tree_ops.proofs.Rows.{found-some}
use Rattle.tree_ops.proofs.peeking.peek_stat.Goals as goal

pub stat-requires : goal.stat-requires
stat-requires c = found-some (look (world_of c.new-path.result.tree)) c.new-path.result.path.names (sym c.in_ok-check_found.ensures)

pub returns-in_err-check_found : goal.returns-in_err-check_found
returns-in_err-check_found c = λ limits counts.
    let w = world_of c.args.table.now in
    let p = c.args.path.now in
    let fails = c.in_err-check_found.ensures ∙ (λ i. find (look (world_of (c.new-path.ensures.tree i))) (c.new-path.ensures.path i).names) in
    let failed = err_from_is_err_and c.from_residual.result c.from_residual.ensures.1 in
    rw (failed.1, failed.2) (by-refusal w limits counts (Stat p) _
    (stat-row w limits counts p c.resolve-path.result.names _ c.resolve-path.ensures.names fails))

pub returns : goal.returns
returns c = λ limits counts.
    let w = world_of c.args.table.now in
    let p = c.args.path.now in
    let passes = c.in_ok-check_found.ensures ∙ (λ i. find (look (world_of (c.new-path.ensures.tree i))) (c.new-path.ensures.path i).names) in
    ap Ok (c.stat.ensures ∙ (λ i. stat_of (world_of (c.new-path.ensures.tree i)) (c.new-path.ensures.path i).names)
    ∙ ap (stat_of w) c.resolve-path.ensures.names)
    ∙ by-refusal w limits counts (Stat p) None (stat-row w limits counts p c.resolve-path.result.names None c.resolve-path.ensures.names passes)
