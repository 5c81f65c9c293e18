use Rattle.std.proofs.Common.{◌≡◌, ◌⊎◌, [], subst}
use Rattle.watch_table.specs.Watching.{IsSound}
use Rattle.instance_table.specs.Staging.{wds_to}
use Rattle.instance_table.proofs.Kept.{ends-left}
use Rattle.instance_table.proofs.instances.Instances.stage.Goals as goal

pub returns-clause-staged : goal.returns-clause-staged
returns-clause-staged c = record {
  events = c.in_ok-stage_each.ensures.events;
  drops = λ q i e.
      ends-left i.watches c.args.notices.now (wds_to q c.stage_each.new.staged.drops.items) (c.in_ok-stage_each.ensures.drops q i e)
      (subst (λ ds. (wds_to q ds ≡ []) ⊎ IsSound i.watches) c.deref.ensures.value (c.find_ended.ensures q i e))
      (c.removals_leave_the_rest.ensures i.watches c.args.notices.now);
}
