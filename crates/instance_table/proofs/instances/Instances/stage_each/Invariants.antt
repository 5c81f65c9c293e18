use Rattle.std.proofs.Common.{◌≡◌, ℕ, Some, take}
use Rattle.event_rules.specs.Raised.{events_of, wds_ended}
use Rattle.instance_table.specs.declared.instance.Instance.{Instance}
use Rattle.instance_table.specs.Instances.{instance_of}
use Rattle.instance_table.specs.Staging.{events_to, wds_to}
use Rattle.instance_table.specs.Recent.{AreFound}
use Rattle.instance_table.proofs.instances.Instances.stage_each.Given as goal

abbrev pub invariant-loop-index : goal.invariant-loop-index
invariant-loop-index l = record {
  events : (q : ℕ) (i : Instance) → instance_of l.self q ≡ Some i
      → events_to q l.staged.events.items ≡ events_of i.watches (take l.index l.notices);
  drops : (q : ℕ) (i : Instance) → instance_of l.self q ≡ Some i
      → wds_to q l.staged.drops.items ≡ wds_ended i.watches (take l.index l.notices);
  found : AreFound l.self l.recent;
}
