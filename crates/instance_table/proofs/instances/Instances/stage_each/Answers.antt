use Rattle.std.proofs.Common.{◌≡◌, ◌++◌, ℕ, Option, Some, take, sym, ap, ◌∙◌}
use Rattle.std.specs.FinMap as finmap
use Rattle.std.specs.Option.{option_copied}
use Rattle.watch_table.specs.declared.watch.Watch.{Watch}
use Rattle.watch_table.specs.Watching.{watch_of}
use Rattle.event_rules.specs.Raised.{ended_by, raised_at, told_number}
use Rattle.event_rules.specs.Staging.{left_before}
use Rattle.instance_table.specs.declared.instance.Instance.{Instance}
use Rattle.instance_table.specs.Instances.{instance_of}
use Rattle.instance_table.specs.Staging.{events_to, wds_to}
use Rattle.file_watchers.specs.Watchers.{WatchMap}
use Rattle.instance_table.specs.Watchers.{row_or_none, watch_at}
use Rattle.instance_table.proofs.Kept.{all-left, events-more, wds-more}
use Rattle.instance_table.proofs.instances.Instances.stage_each.Goals as goal

pub loop-index-init : goal.loop-index-init
loop-index-init c = record {
  events = λ q i e. ap (events_to q) c.requires.events;
  drops = λ q i e. ap (wds_to q) c.requires.drops;
  found = c.of-recent.ensures;
}

pub stage_row-requires : goal.stage_row-requires
stage_row-requires c none q =
    let m = c.args.self.now in
    let number = told_number c.index-notices-index.result in
    all-left m (take c.loop-index.index c.args.notices.now) number q c.loop-index.staged.drops.items
    (c.loop-index.invariant.drops q) none
    (finmap.get (row_or_none (option_copied c.row_of-row.result)) q)
    (c.row_of-row.ensures.row q ∙ ap (λ n. watch_at n (instance_of m q)) c.number-in-loop-index.ensures)

pub loop-index-preserved : goal.loop-index-preserved
loop-index-preserved c =
    let m = c.args.self.now in
    let ns = c.args.notices.now in
    let k = c.loop-index.index in
    let n = c.index-notices-index.result in
    let row : WatchMap = row_or_none (option_copied c.row_of-row.result) in
    let here : (q : ℕ) (i : Instance) → instance_of m q ≡ Some i → finmap.get row q ≡ watch_of i.watches (told_number n) =
    λ q i e. c.row_of-row.ensures.row q ∙ (λ j. watch_at (c.number-in-loop-index.ensures j) (e j)) in
    let left : Option Watch → Option Watch = left_before (take k ns) (told_number n) in
    record {
      events = λ q i e.
          let before = events_to q c.loop-index.staged.events.items in
          events-more i.watches ns k n n c.loop-index-test.true (sym c.index-notices-index.is) before
          (events_to q c.stage_row.new.staged.events.items) (c.loop-index.invariant.events q i e)
          (c.in_ok-stage_row.ensures.events q ∙ ap (λ o. before ++ raised_at n (left o)) (here q i e));
      drops = λ q i e.
          let before = wds_to q c.loop-index.staged.drops.items in
          wds-more i.watches ns k n n c.loop-index-test.true (sym c.index-notices-index.is) before
          (wds_to q c.stage_row.new.staged.drops.items) (c.loop-index.invariant.drops q i e)
          (c.in_ok-stage_row.ensures.drops q ∙ ap (λ o. before ++ ended_by n (left o)) (here q i e));
      found = c.row_of-row.ensures.found;
    }
