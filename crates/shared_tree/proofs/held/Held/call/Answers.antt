use Rattle.std.proofs.Common.{sym, subst, ◌∙◌}
use Rattle.shared_tree.specs.Calls.{HandsOver, TreeWithPipes, tree_with_pipes}
use Rattle.shared_tree.specs.Held.{sents}
use Rattle.shared_tree.specs.Handed.{deliver}
use Rattle.std.proofs.Common.{Result}
use Rattle.std.specs.Prelude.{IfErr}
use Rattle.std.proofs.lemmas.Result.{err_from_is_err_and}
use Rattle.tree_core.specs.declared.reply.Receipt.{Receipt}
use Rattle.tree_paths.specs.declared.refusal.Refusal.{Refusal}
use Rattle.shared_tree.specs.Calls.{RefusalOf}
use Rattle.shared_tree.proofs.Unable.{why-not}
use Rattle.shared_tree.proofs.Wholes.{close-why, hands-call, held-call}
use Rattle.shared_tree.proofs.held.Held.call.Goals as goal

pub invariant_of-self-2 : goal.invariant_of-self-2
invariant_of-self-2 g c =
    rw (c.hand_over.ensures.sent, c.hand_over.ensures.numbers, c.in-Ok.ensures.sent, c.in-Ok.ensures.numbers)
    (held-call c.replies_tell.ensures c.self.inside.core c.enter.new.core c.args.seat.now c.enter.new.seat
    c.in_ok-receipt.receipt c.self.inside.pipes.numbers (sents c.self.inside.pipes.ends) c.self.inside.book.total
    c.enter.new.book.total c.self.invariant
    c.args.call c.closed_by-closed.result c.end_batch-batch.result c.in_ok-receipt.ensures.ok c.requires.plain
    c.in_ok-receipt.ensures.total c.closed_by-closed.ensures c.end_batch-batch.ensures)

pub returns-clause-hands : goal.returns-clause-hands
returns-clause-hands g c =
    let a = c.self.inside in
    let old : TreeWithPipes = tree_with_pipes a.core a.pipes.numbers (sents a.pipes.ends) a.book.total in
    let new : TreeWithPipes = tree_with_pipes c.enter.new.core c.hand_over.new.self.numbers (sents c.hand_over.new.self.ends) c.enter.new.book.total in
    subst (λ (h : TreeWithPipes). HandsOver h c.args.call c.in_ok-receipt.receipt new) c.self.view_is
    (hands-call old new c.args.seat.now c.enter.new.seat c.args.call c.in_ok-receipt.receipt c.closed_by-closed.result
    c.end_batch-batch.result c.in_ok-receipt.ensures.ok c.requires.plain c.closed_by-closed.ensures
    c.end_batch-batch.ensures
    (c.hand_over.ensures.numbers ∙ c.in-Ok.ensures.numbers)
    (c.hand_over.ensures.sent
    ∙ (λ i. deliver c.end_batch-batch.result (c.in-Ok.ensures.numbers i) (c.in-Ok.ensures.sent i)))
    c.in_ok-receipt.ensures.total)

pub returns-in-Err-clause-errors : goal.returns-in-Err-clause-errors
returns-in-Err-clause-errors g c =
    let a = c.self.inside in
    subst (λ (h : TreeWithPipes). RefusalOf h.state c.args.call c.drop_cold.result) c.self.view_is
    (subst (λ (e : Refusal). RefusalOf a.core c.args.call e) (sym c.drop_cold.ensures)
    (close-why a.core a.pipes.numbers (sents a.pipes.ends) a.book.total c.args.call c.closed_by-closed.result
    c.in-Err.refusal c.self.invariant c.closed_by-closed.ensures c.in-Err.ensures.err))

pub returns-in_err-receipt-clause-errors : goal.returns-in_err-receipt-clause-errors
returns-in_err-receipt-clause-errors g c =
    let a = c.self.inside in
    let p = err_from_is_err_and c.from_residual.result c.from_residual.ensures.1 in
    subst (λ (h : TreeWithPipes). IfErr c.from_residual.result (λ e. RefusalOf h.state c.args.call e)) c.self.view_is
    (subst (λ (x : Result Receipt Refusal). IfErr x (λ e. RefusalOf a.core c.args.call e)) (sym p.1)
    (subst (λ (e : Refusal). RefusalOf a.core c.args.call e) (sym p.2)
    (why-not a.core c.args.call c.in_err-receipt.field-0.0 c.in_err-receipt.ensures.errors)))
