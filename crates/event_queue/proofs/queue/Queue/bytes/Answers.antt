use Rattle.std.proofs.Common.{length, ap, ◌∙◌, arith}
use Rattle.std.proofs.lemmas.List.{take_all}
use Rattle.record_codec.specs.Records.{spelling}
use Rattle.event_queue.proofs.BytesLemmas.{record_small, spelling_next}
use Rattle.event_queue.proofs.queue.Queue.bytes.Goals as goal

pub overflow_add-len : goal.overflow_add-len
overflow_add-len c =
    let small = record_small c.in-Some.event.now c.record_len-len.ensures.is_event in
    omega (arith, small, c.record_len-len.ensures.len, c.limit-limit.ensures.within, c.len-index-end.ensures.within)

pub loop-index-preserved : goal.loop-index-preserved
loop-index-preserved c =
    let e = c.in-Some.event.now in
    let small = record_small e c.record_len-len.ensures.is_event in
    let next = spelling_next c.args.self.now.waiting c.loop-index.index e c.in-Some.ensures in
    record { len = omega (arith, next, c.record_len-len.ensures.len); small = omega (arith, small, c.record_len-len.ensures.len) }

pub returns : goal.returns
returns c =
    c.loop-index.invariant.len
    ∙ ap (λ es. length (spelling es))
    (take_all c.loop-index.index c.args.self.now.waiting
    (omega (arith, c.loop-index-test.false, c.len-index-end.ensures.len)))
