use Rattle.std.proofs.Common.{sym, ap, ◌∙◌, ◌++◌}
use Rattle.record_codec.specs.Records.{record_bytes}
use Rattle.tree_core.proofs.Instances.{spelling_more, events_more}
use Rattle.tree_core.proofs.file_system.spelled.Goals as goal

pub loop-index-preserved : goal.loop-index-preserved
loop-index-preserved c =
    let e = c.in-Some.event.now in
    let waiting = c.args.queue.now.waiting in
    let k = c.loop-index.index in
    record {
      bytes = c.in_ok-append.ensures.ok ∙ ap (λ x. x ++ record_bytes e) c.loop-index.invariant.bytes ∙ sym (spelling_more waiting k e (sym c.in-Some.ensures));
      events = events_more waiting k e (sym c.in-Some.ensures) c.loop-index.invariant.events c.in_ok-append.ensures.is_event;
    }
