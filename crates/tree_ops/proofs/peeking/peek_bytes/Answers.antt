use Rattle.std.proofs.Common.{◌≡◌, None, take, drop, sym, ap, subst, ◌∙◌}
use Rattle.std.specs.Prelude.{Ok}
use Rattle.std.specs.Option.{option_and_then, IsSomeAnd}
use Rattle.std.proofs.lemmas.Result.{err_from_is_err_and}
use Rattle.std.specs.FinMap as finmap
use Rattle.tree_paths.specs.Rows.{first_row}
use Rattle.inode_table.specs.TableWorld.{world_of}
use Rattle.inode_table.specs.World as world
use Rattle.inode_table.specs.World.{look}
use Rattle.tree_ops.specs.declared.answer.Answer.TheVariants.{Bytes}
use Rattle.tree_ops.specs.declared.call.FileCall.TheVariants.{ReadFile}
use Rattle.tree_ops.specs.After.{bytes_at}
use Rattle.tree_ops.specs.Refused.{read_rows}
use Rattle.tree_ops.proofs.Answering.{by-refusal, read-row}
use Rattle.tree_ops.proofs.Changed.{bytes-of}
use Rattle.tree_ops.proofs.Rows.{read-known}
use Rattle.tree_ops.proofs.peeking.peek_bytes.Goals as goal

pub key-requires-clause-there : goal.key-requires-clause-there
key-requires-clause-there c =
    let passes = c.in_ok-check_read.ensures ∙ (λ i. first_row (read_rows (look (world_of (c.new.ensures.tree i))) (c.new.ensures.path i).names)) in
    (read-known (look (world_of c.args.table.now)) c.resolve-path.result.names (sym passes)).there

pub returns-in_err-check_read-clause-err : goal.returns-in_err-check_read-clause-err
returns-in_err-check_read-clause-err c = λ limits counts.
    let w = world_of c.args.table.now in
    let p = c.args.path.now in
    let fails = c.in_err-check_read.ensures ∙ (λ i. first_row (read_rows (look (world_of (c.new.ensures.tree i))) (c.new.ensures.path i).names)) in
    let failed = err_from_is_err_and c.from_residual.result c.from_residual.ensures.1 in
    rw (failed.1, failed.2) (sym
    (by-refusal w limits counts (ReadFile p c.args.offset c.args.count) _
    (read-row w limits counts p c.resolve-path.result.names c.args.offset c.args.count _ c.resolve-path.ensures.names fails)))

pub returns-clause-ok : goal.returns-clause-ok
returns-clause-ok c = λ limits counts.
    let w = world_of c.args.table.now in
    let p = c.args.path.now in
    let q = c.resolve-path.result.names in
    let passes = c.in_ok-check_read.ensures ∙ (λ i. first_row (read_rows (look (world_of (c.new.ensures.tree i))) (c.new.ensures.path i).names)) in
    let content = subst (λ o. IsSomeAnd o (λ (f : world.File). f.bytes ≡ c.content-content.result.now))
    (ap (option_and_then (finmap.get w.files)) c.key.ensures.found) c.content-content.ensures in
    let read =
    c.front.ensures
    ∙ ap (take c.args.count) (c.rest.ensures
    ∙ ap (drop c.args.offset) (sym (bytes-of w q c.content-content.result.now content) ∙ ap (bytes_at w) c.resolve-path.ensures.names)) in
    sym (by-refusal w limits counts (ReadFile p c.args.offset c.args.count) None
    (read-row w limits counts p q c.args.offset c.args.count None c.resolve-path.ensures.names passes))
    ∙ ap (λ bytes. Ok (Bytes bytes)) (sym read)
