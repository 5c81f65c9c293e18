use Rattle.std.proofs.Common.{refl, sym}
use Rattle.std.proofs.lemmas.List.{append-nil}
use Rattle.std.specs.Prelude.{Option}
use Rattle.watch_table.specs.declared.watch.Watch.{Watch}
use Rattle.event_rules.specs.declared.staged.StagedEnd.{StagedEnd}
use Rattle.event_rules.specs.declared.staged.StagedEvent.{StagedEvent}
use Rattle.event_rules.specs.Raised.{ended_by, raised_at}
use Rattle.event_rules.specs.Staging.{staged_end, staged_event}
use Rattle.instance_table.specs.Staging.{events_to, wds_to}
use Rattle.instance_table.specs.Watchers.{unless_ended}
use Rattle.instance_table.proofs.Staged.{row-done, row-more}
use Rattle.instance_table.proofs.row.stage_rest.Goals as goal

pub loop-index-init : goal.loop-index-init
loop-index-init c = record {
  events = λ q. sym (append-nil (events_to q c.args.staged.now.events.items));
  drops = λ q. sym (append-nil (wds_to q c.args.staged.now.drops.items));
}

pub loop-index-preserved : goal.loop-index-preserved
loop-index-preserved c = record {
  events = λ q.
      row-more (λ (h : StagedEvent). h.id) (λ (h : StagedEvent). h.event) staged_event (λ id y. refl) (λ id y. refl)
      c.args.ids.now c.args.watches.now c.requires.watchers
      (λ (o : Option Watch). raised_at c.args.notice.now (unless_ended c.args.ended.now o)) (events_to q c.args.staged.now.events.items)
      c.loop-index.index q c.loop-index.staged.events.items c.stage_left.new.staged.events.items c.loop-index-test.true
      (c.loop-index.invariant.events q) c.in_ok-stage_left.ensures.events;
  drops = λ q.
      row-more (λ (d : StagedEnd). d.id) (λ (d : StagedEnd). d.wd) staged_end (λ id y. refl) (λ id y. refl)
      c.args.ids.now c.args.watches.now c.requires.watchers
      (λ (o : Option Watch). ended_by c.args.notice.now (unless_ended c.args.ended.now o)) (wds_to q c.args.staged.now.drops.items)
      c.loop-index.index q c.loop-index.staged.drops.items c.stage_left.new.staged.drops.items c.loop-index-test.true
      (c.loop-index.invariant.drops q) c.in_ok-stage_left.ensures.drops;
}

pub returns-clause-events : goal.returns-clause-events
returns-clause-events c q =
    row-done (λ (h : StagedEvent). h.id) (λ (h : StagedEvent). h.event) staged_event (λ id y. refl) (λ id y. refl)
    c.args.ids.now c.args.watches.now c.requires.watchers
    (λ (o : Option Watch). raised_at c.args.notice.now (unless_ended c.args.ended.now o)) (events_to q c.args.staged.now.events.items)
    c.loop-index.index q c.loop-index.staged.events.items c.loop-index-test.false refl (c.loop-index.invariant.events q)

pub returns-clause-drops : goal.returns-clause-drops
returns-clause-drops c q =
    row-done (λ (d : StagedEnd). d.id) (λ (d : StagedEnd). d.wd) staged_end (λ id y. refl) (λ id y. refl)
    c.args.ids.now c.args.watches.now c.requires.watchers
    (λ (o : Option Watch). ended_by c.args.notice.now (unless_ended c.args.ended.now o)) (wds_to q c.args.staged.now.drops.items)
    c.loop-index.index q c.loop-index.staged.drops.items c.loop-index-test.false refl (c.loop-index.invariant.drops q)
