use Rattle.std.proofs.Common.{◌≡◌, ◌⊎◌, ℕ, [], Some, take}
use Rattle.watch_table.specs.Watching.{IsSound}
use Rattle.instance_table.specs.declared.instance.Instance.{Instance}
use Rattle.instance_table.specs.Instances.{instance_of}
use Rattle.instance_table.specs.Staging.{wds_to}
use Rattle.instance_table.proofs.instances.Instances.find_ended.Given as goal

abbrev pub invariant-loop-ended : goal.invariant-loop-ended
invariant-loop-ended l = (q : ℕ) (i : Instance) → instance_of l.self q ≡ Some i
    → (wds_to q (take l.ended-index l.drops) ≡ []) ⊎ IsSound i.watches
