use Rattle.std.proofs.Common.{List, Option, option_map, ap, sym, subst, ◌∙◌}
use Rattle.record_codec.specs.declared.event.Event.{Event}
use Rattle.shared_tree.specs.Calls.{HandsOver, TreeWithPipes, tree_with_pipes}
use Rattle.tree_core.specs.declared.call.Call.TheVariants as call
use Rattle.tree_core.specs.Journal.{now}
use Rattle.shared_tree.specs.declared.pipe.Batch.{Batch}
use Rattle.shared_tree.specs.Held.{sents, IsReady}
use Rattle.shared_tree.specs.Handed.{batch, deliver}
use Rattle.shared_tree.proofs.Keeping.{pump-ready}
use Rattle.std.proofs.Common.{Result}
use Rattle.std.specs.Prelude.{IfErr}
use Rattle.std.proofs.lemmas.Result.{err_from_is_err_and}
use Rattle.tree_core.specs.declared.reply.Receipt.{Receipt}
use Rattle.tree_paths.specs.declared.refusal.Refusal.{Refusal}
use Rattle.shared_tree.specs.Calls.{RefusalOf}
use Rattle.shared_tree.proofs.Unable.{why-not}
use Rattle.shared_tree.proofs.Wholes.{pump-why, hands-pump, held-pump}
use Rattle.shared_tree.proofs.held.Held.pump.Goals as goal

pub hand_over-requires : goal.hand_over-requires
hand_over-requires g c =
    subst (λ (o : Option Batch). IsReady c.look.new.self.numbers c.look.new.self.ends c.in_ok-at.at o)
    (sym (c.pumped_batch-batch.ensures
    ∙ ap (λ (x : Option (List Event)). option_map (batch c.args.instance c.in_ok-receipt.receipt.place) x) c.in_ok-receipt.ensures.records))
    (pump-ready c.replies_tell.ensures c.look.new.self.numbers c.look.new.self.ends (now c.self.inside.core) c.in_ok-receipt.receipt.place
    c.in_ok-at.at c.args.instance c.args.bytes c.in_ok-at.ensures.ok)

pub invariant_of-self-2 : goal.invariant_of-self-2
invariant_of-self-2 g c =
    rw (c.hand_over.ensures.sent, c.hand_over.ensures.numbers, c.in_ok-at.ensures.sent, c.in_ok-at.ensures.numbers)
    (held-pump c.replies_tell.ensures c.self.inside.core c.enter_pump.new.core c.args.seat.now c.enter_pump.new.seat
    c.in_ok-receipt.receipt c.self.inside.pipes.numbers (sents c.self.inside.pipes.ends) c.self.inside.book.total
    c.enter_pump.new.book.total
    c.self.invariant c.args.instance c.args.bytes c.in_ok-receipt.records c.pumped_batch-batch.result
    c.in_ok-receipt.ensures.ok c.in_ok-receipt.ensures.total c.in_ok-receipt.ensures.records
    c.in_ok-receipt.ensures.events c.pumped_batch-batch.ensures)

pub returns-clause-hands : goal.returns-clause-hands
returns-clause-hands g c =
    let a = c.self.inside in
    let old : TreeWithPipes = tree_with_pipes a.core a.pipes.numbers (sents a.pipes.ends) a.book.total in
    let new : TreeWithPipes =
    tree_with_pipes c.enter_pump.new.core c.hand_over.new.self.numbers (sents c.hand_over.new.self.ends)
    c.enter_pump.new.book.total in
    subst (λ (h : TreeWithPipes). HandsOver h (call.Pump c.args.instance c.args.bytes) c.in_ok-receipt.receipt new) c.self.view_is
    (hands-pump old new c.args.instance c.args.bytes c.in_ok-receipt.receipt c.in_ok-receipt.records
    c.pumped_batch-batch.result c.in_ok-receipt.ensures.records c.pumped_batch-batch.ensures
    (c.hand_over.ensures.numbers ∙ c.in_ok-at.ensures.numbers)
    (c.hand_over.ensures.sent
    ∙ (λ i. deliver c.pumped_batch-batch.result (c.in_ok-at.ensures.numbers i) (c.in_ok-at.ensures.sent i)))
    c.in_ok-receipt.ensures.total)

pub returns-in_err-at-clause-errors : goal.returns-in_err-at-clause-errors
returns-in_err-at-clause-errors g c =
    let a = c.self.inside in
    let p = err_from_is_err_and c.from_residual.result c.from_residual.ensures.1 in
    subst (λ (h : TreeWithPipes). IfErr c.from_residual.result (λ e. RefusalOf h.state (call.Pump c.args.instance c.args.bytes) e)) c.self.view_is
    (subst (λ (x : Result Receipt Refusal). IfErr x (λ e. RefusalOf a.core (call.Pump c.args.instance c.args.bytes) e)) (sym p.1)
    (subst (λ (e : Refusal). RefusalOf a.core (call.Pump c.args.instance c.args.bytes) e) (sym p.2)
    (pump-why a.core a.pipes.numbers (sents a.pipes.ends) a.book.total c.args.instance c.args.bytes
    c.in_err-at.field-0.0 c.self.invariant c.in_err-at.ensures.err)))

pub returns-in_err-receipt-clause-errors : goal.returns-in_err-receipt-clause-errors
returns-in_err-receipt-clause-errors g c =
    let a = c.self.inside in
    let p = err_from_is_err_and c.from_residual-in_err-receipt.result c.from_residual-in_err-receipt.ensures.1 in
    subst (λ (h : TreeWithPipes). IfErr c.from_residual-in_err-receipt.result
    (λ e. RefusalOf h.state (call.Pump c.args.instance c.args.bytes) e)) c.self.view_is
    (subst (λ (x : Result Receipt Refusal). IfErr x (λ e. RefusalOf a.core (call.Pump c.args.instance c.args.bytes) e)) (sym p.1)
    (subst (λ (e : Refusal). RefusalOf a.core (call.Pump c.args.instance c.args.bytes) e) (sym p.2)
    (why-not a.core (call.Pump c.args.instance c.args.bytes) c.in_err-receipt.field-0.0 c.in_err-receipt.ensures.errors)))
