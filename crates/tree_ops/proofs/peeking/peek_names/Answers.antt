use Rattle.std.proofs.Common.{None, sym, ap, ◌∙◌, inl}
use Rattle.std.specs.Prelude.{Ok}
use Rattle.std.proofs.lemmas.Result.{err_from_is_err_and}
use Rattle.tree_paths.specs.Rows.{first_row}
use Rattle.inode_table.specs.TableWorld.{world_of}
use Rattle.inode_table.specs.World.{look}
use Rattle.tree_ops.specs.declared.answer.Answer.TheVariants.{Names}
use Rattle.tree_ops.specs.declared.call.FileCall.TheVariants.{List as Listed}
use Rattle.tree_ops.specs.After.{names_in}
use Rattle.tree_ops.specs.Refused.{list_rows}
use Rattle.tree_ops.proofs.Answering.{by-refusal, list-row}
use Rattle.tree_ops.proofs.Rows.{list-known}
use Rattle.tree_ops.proofs.peeking.peek_names.Goals as goal

pub list-requires-clause-there : goal.list-requires-clause-there
list-requires-clause-there c = (list-known (look (world_of c.new-path.result.tree)) c.new-path.result.path.names (sym c.in_ok-check_list.ensures)).there

pub list-requires-clause-directory : goal.list-requires-clause-directory
list-requires-clause-directory c = (list-known (look (world_of c.new-path.result.tree)) c.new-path.result.path.names (sym c.in_ok-check_list.ensures)).directory

pub returns-in_err-check_list-clause-err : goal.returns-in_err-check_list-clause-err
returns-in_err-check_list-clause-err c = λ limits counts.
    let w = world_of c.args.table.now in
    let p = c.args.path.now in
    let fails = c.in_err-check_list.ensures ∙ (λ i. first_row (list_rows (look (world_of (c.new-path.ensures.tree i))) (c.new-path.ensures.path i).names)) in
    let failed = err_from_is_err_and c.from_residual.result c.from_residual.ensures.1 in
    rw (failed.1, failed.2) (inl
    (sym (by-refusal w limits counts (Listed p) _ (list-row w limits counts p c.resolve-path.result.names _ c.resolve-path.ensures.names fails))))

pub returns-clause-ok : goal.returns-clause-ok
returns-clause-ok c = λ limits counts.
    let w = world_of c.args.table.now in
    let p = c.args.path.now in
    let q = c.resolve-path.result.names in
    let passes = c.in_ok-check_list.ensures ∙ (λ i. first_row (list_rows (look (world_of (c.new-path.ensures.tree i))) (c.new-path.ensures.path i).names)) in
    let listed =
    c.in_ok-list.ensures ∙ (λ i. names_in (world_of (c.new-path.ensures.tree i)) (c.new-path.ensures.path i).names)
    ∙ ap (names_in w) c.resolve-path.ensures.names in
    sym (by-refusal w limits counts (Listed p) None (list-row w limits counts p q None c.resolve-path.ensures.names passes))
    ∙ ap (λ names. Ok (Names names)) (sym listed)
