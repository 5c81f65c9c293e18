use Rattle.std.proofs.Common.{◌≡◌, ◌<◌, ◌++◌, List, length, take, map, refl, sym, ap, ◌∙◌, append_assoc}
use Rattle.std.specs.Prelude.{fold}
use Rattle.std.proofs.lemmas.List.{append-nil, map-append}
use Rattle.record_codec.specs.declared.event.Event.{Event}
use Rattle.watch_table.specs.Watching.{removed, watch_of}
use Rattle.event_rules.specs.declared.notice.Notice.{Notice}
use Rattle.event_rules.specs.declared.staged.StagedEvent.{StagedEvent}
use Rattle.event_rules.specs.Raised.{events_of, told_number}
use Rattle.event_rules.proofs.Removals.{raised}
use Rattle.event_rules.specs.Staging.{staged_event}
use Rattle.event_rules.proofs.Stages.{ended_with, events_more, raised_with, wds_more}
use Rattle.event_rules.proofs.staged.stage_events.Goals as goal

pub loop-notice-init : goal.loop-notice-init
loop-notice-init c = record {
  events = sym (append-nil c.args.events.now.items);
  found = c.of-recent.ensures;
  ended = c.requires;
}

pub loop-notice-preserved : goal.loop-notice-preserved
loop-notice-preserved c =
    let left_by_removals = λ (ns : List Notice). c.removals_leave_the_rest.ensures c.args.watches.now ns c.next_wd-next_wd.ensures.sound in
    let within : c.loop-notice.notice-index < length c.args.notices.now = c.loop-notice-test.true in
    let w = c.args.watches.now in
    let was = c.args.events.now.items in
    let heard : Event → StagedEvent = staged_event c.args.id in
    let before = events_of w (take c.loop-notice.notice-index c.args.notices.now) in
    let more = raised (fold removed w c.loop-notice.wds.items) c.notice-item.result in
    let left = fold removed w c.loop-notice.wds.items in
    let n = c.notice-item.result in
    let at : c.watch_left-watch.result ≡ watch_of left (told_number n) =
    c.watch_left-watch.ensures.watch ∙ (λ k. watch_of (fold removed w (c.deref.ensures.value k)) (c.number-in-loop-notice.ensures k)) in
    let raises = raised_with left n c.watch_left-watch.result at in
    let ends = ended_with left n c.watch_left-watch.result at in
    record {
      events =
          c.in_ok-stage_notice.ensures.events ∙ ap (λ es. c.loop-notice.events.items ++ map heard es) raises
          ∙ ap (λ es. es ++ map heard more) c.loop-notice.invariant.events ∙ append_assoc was (map heard before) (map heard more)
          ∙ ap (λ es. was ++ es) (sym (map-append heard before more)
          ∙ ap (map heard) (events_more w left_by_removals c.args.notices.now c.loop-notice.notice-index c.notice-item.result
          c.notice-item.result c.loop-notice.wds.items within (sym c.notice-item.is)
          c.loop-notice.invariant.ended before (before ++ more) refl refl));
      ended =
          wds_more w left_by_removals c.args.notices.now c.loop-notice.notice-index c.notice-item.result c.notice-item.result
          c.loop-notice.wds.items within (sym c.notice-item.is)
          c.loop-notice.invariant.ended c.stage_notice.new.wds.items (c.in_ok-stage_notice.ensures.ended ∙ ap (λ ds. c.loop-notice.wds.items ++ ds) ends);
      found = c.watch_left-watch.ensures.found;
    }
