use Rattle.std.proofs.Common.{◌++◌, ◌∷◌, [], sym, ap, ◌∙◌, take}
use Rattle.std.proofs.lemmas.List.{take_more}
use Rattle.std.proofs.lemmas.Option.{get_or_from_slice_get, slice_get_within}
use Rattle.instance_table.proofs.rows.waiting.Goals as goal

pub loop-index-preserved : goal.loop-index-preserved
loop-index-preserved c =
    let e = c.in-Some.event.now in
    let waiting = c.args.queue.now.waiting in
    let k = c.loop-index.index in
    c.in_ok-push.ensures.items
    ∙ ap (λ x. x ++ c.in_ok-copy.field-0 ∷ []) c.loop-index.invariant
    ∙ ap (λ x. take k waiting ++ x ∷ []) (c.in_ok-copy.ensures ∙ sym (get_or_from_slice_get waiting k _ e (sym c.in-Some.ensures)))
    ∙ sym (take_more waiting k e (slice_get_within waiting k _ (sym c.in-Some.ensures)))
