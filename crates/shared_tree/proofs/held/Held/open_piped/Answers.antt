use Rattle.std.proofs.Common.{ℕ, true, List, [], ◌++◌, map, ap, subst, ◌∙◌}
use Rattle.tree_core.specs.declared.call.Call.TheVariants as call
use Rattle.std.proofs.Common.{Option, Result, sym}
use Rattle.std.specs.Prelude.{IfErr}
use Rattle.std.proofs.lemmas.Result.{err_from_is_err_and}
use Rattle.tree_paths.specs.declared.refusal.Refusal.{Refusal}
use Rattle.tree_core.specs.declared.reply.Receipt.{Receipt}
use Rattle.shared_tree.specs.Calls.{HandsOver, TreeWithPipes, IsOutOfSpace, tree_with_pipes}
use Rattle.shared_tree.specs.Handed.{piped_by}
use Rattle.shared_tree.specs.Held.{sents}
use Rattle.shared_tree.specs.Pipes.{Fed}
use Rattle.shared_tree.specs.PipeEnds.{Piped}
use Rattle.shared_tree.proofs.Unable.{unable}
use Rattle.shared_tree.proofs.Wholes.{hands-open, held-lengths, held-next, held-open}
use Rattle.shared_tree.proofs.held.Held.open_piped.Goals as goal

pub invariant_of-self-2 : goal.invariant_of-self-2
invariant_of-self-2 g c =
    rw (c.add-feed.ensures.numbers c.args.limit, c.add-feed.ensures.sent c.args.limit, c.in_ok-pipe.ensures.numbers, c.in_ok-pipe.ensures.ends)
    (held-open c.replies_tell.ensures c.self.inside.core c.enter.new.core c.args.seat.now c.enter.new.seat
    c.in_ok-receipt.receipt c.self.inside.pipes.numbers (sents c.self.inside.pipes.ends) c.self.inside.book.total
    c.enter.new.book.total
    c.self.invariant c.args.limit c.in_ok-receipt.ensures.ok c.in_ok-receipt.ensures.total)

pub add-feed-requires-clause-next : goal.add-feed-requires-clause-next
add-feed-requires-clause-next g c = λ id is.
    rw c.in_ok-pipe.ensures.numbers
    (held-next c.replies_tell.ensures c.self.inside.core c.enter.new.core c.args.seat.now c.enter.new.seat
    c.in_ok-receipt.receipt c.self.inside.pipes.numbers (sents c.self.inside.pipes.ends) c.self.inside.book.total
    c.args.limit id c.self.invariant c.in_ok-receipt.ensures.ok is)

pub returns-clause-hands : goal.returns-clause-hands
returns-clause-hands g c =
    let a = c.self.inside in
    let old : TreeWithPipes = tree_with_pipes a.core a.pipes.numbers (sents a.pipes.ends) a.book.total in
    let new : TreeWithPipes = tree_with_pipes c.enter.new.core c.add-feed.new.self.numbers (sents c.add-feed.new.self.ends) c.enter.new.book.total in
    subst (λ (h : TreeWithPipes). HandsOver h (call.Init c.args.limit true) c.in_ok-receipt.receipt new) c.self.view_is
    (hands-open old new c.args.limit c.in_ok-receipt.receipt (held-lengths a.core a.pipes.numbers (sents a.pipes.ends) a.book.total c.self.invariant)
    (c.add-feed.ensures.numbers c.args.limit
    ∙ ap (λ (ns : List ℕ). ns ++ piped_by (call.Init c.args.limit true) c.in_ok-receipt.receipt.reply)
    c.in_ok-pipe.ensures.numbers)
    (c.add-feed.ensures.sent c.args.limit
    ∙ ap
    (λ (ps : List Piped).
    sents ps ++ map (λ (id : ℕ). []) (piped_by (call.Init c.args.limit true) c.in_ok-receipt.receipt.reply))
    c.in_ok-pipe.ensures.ends)
    c.in_ok-receipt.ensures.total)

pub returns-in_err-pipe-clause-errors : goal.returns-in_err-pipe-clause-errors
returns-in_err-pipe-clause-errors g c =
    let a = c.self.inside in
    let p = err_from_is_err_and c.from_residual.result c.from_residual.ensures.1 in
    subst (λ (h : TreeWithPipes). IfErr c.from_residual.result (λ e. IsOutOfSpace h.state e)) c.self.view_is
    (subst (λ (x : Result (Receipt × Option Fed) Refusal). IfErr x (λ e. IsOutOfSpace a.core e)) (sym p.1)
    (subst (λ (e : Refusal). IsOutOfSpace a.core e) (sym p.2)
    (unable a.core c.in_err-pipe.field-0.0 c.in_err-pipe.ensures.errors)))

pub returns-in_err-receipt-clause-errors : goal.returns-in_err-receipt-clause-errors
returns-in_err-receipt-clause-errors g c =
    let a = c.self.inside in
    let p = err_from_is_err_and c.from_residual-in_err-receipt.result c.from_residual-in_err-receipt.ensures.1 in
    subst (λ (h : TreeWithPipes). IfErr c.from_residual-in_err-receipt.result (λ e. IsOutOfSpace h.state e)) c.self.view_is
    (subst (λ (x : Result (Receipt × Option Fed) Refusal). IfErr x (λ e. IsOutOfSpace a.core e)) (sym p.1)
    (subst (λ (e : Refusal). IsOutOfSpace a.core e) (sym p.2)
    (unable a.core c.in_err-receipt.field-0.0 c.in_err-receipt.ensures.errors)))
