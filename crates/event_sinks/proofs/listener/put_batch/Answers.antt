use Rattle.std.proofs.Common.{◌≡◌, ◌∙◌, ◌+◌, ◌++◌, ap, subst, sym, append-nil, List, [], take, drop, Err}
use Rattle.record_codec.specs.declared.event.Event.{Event}
use Rattle.std.specs.Prelude.{flat_map, Option}
use Rattle.std.proofs.lemmas.List.{take_all}
use Rattle.event_sinks.specs.declared.listener.Cause.{Cause}
use Rattle.event_sinks.specs.Pages.{Gains, WritesRecords}
use Rattle.event_sinks.proofs.Answering.{parted}
use Rattle.event_sinks.proofs.Paging.{all_put}
use Rattle.event_sinks.proofs.listener.put_batch.Goals as goal

pub returns-in-Err-clause-answers : goal.returns-in-Err-clause-answers
returns-in-Err-clause-answers g c =
    let items = c.as_slice-event-items.result.now in
    let i = c.loop-event.event-index in
    let event = c.event-item.result in (
      take i items,
      event,
      drop (i + 1) items,
      sym c.as_slice-event-items.ensures ∙ parted items i event c.loop-event-test.true c.event-item.is,
      c.in-Err.ensures.err ∙ c.loop-event.invariant.so_far,
      subst (λ (l : List Event). g.S.Sink.may_answer c.args.sink.now l event (Err c.in-Err.fault))
          (append-nil (take i items))
          (c.loop-event.invariant.foretold [] event (Err c.in-Err.fault) c.in-Err.ensures.answer),
    )

pub returns-in-Err-clause-writes : goal.returns-in-Err-clause-writes
returns-in-Err-clause-writes g c =
    let items = c.as_slice-event-items.result.now in
    let i = c.loop-event.event-index in
    let event = c.event-item.result in (
      take i items,
      event,
      drop (i + 1) items,
      sym c.as_slice-event-items.ensures ∙ parted items i event c.loop-event-test.true c.event-item.is,
      c.in-Err.ensures.err ∙ c.loop-event.invariant.so_far,
      g.S.Sink.page c.loop-event.sink,
      c.loop-event.invariant.gained,
      c.in-Err.ensures.page,
    )

pub returns-clause-writes : goal.returns-clause-writes
returns-clause-writes g c =
    let list = g.S.Sink.record_list in
    let page = g.S.Sink.page in
    let old = c.args.sink.now in
    let new = c.loop-event.sink in
    let records = c.args.batch.now.records in
    let whole : take c.loop-event.event-index c.as_slice-event-items.result.now ≡ records =
    take_all c.loop-event.event-index c.as_slice-event-items.result.now c.loop-event-test.false
    ∙ c.as_slice-event-items.ensures in
    let taken : list new ≡ list old ++ records = c.loop-event.invariant.so_far ∙ ap (λ (r : List Event). list old ++ r) whole in
    let gained : Gains (page old) (flat_map (page old).line records) (page new) =
    subst (λ (r : List Event). Gains (page old) (flat_map (page old).line r) (page new)) whole
    c.loop-event.invariant.gained in
    subst (λ (o : Option Cause). WritesRecords list page old records new o) (sym c.then_some.ensures)
    (all_put list page old new records c.is_last.result (taken, gained))
