use Rattle.std.proofs.Common.{◌≡◌, take}
use Rattle.instance_table.specs.Heard.{ended_all}
use Rattle.instance_table.proofs.instances.Instances.end_each.Given as goal

abbrev pub invariant-loop-ended : goal.invariant-loop-ended
invariant-loop-ended l = l.self ≡ ended_all l.initial.self (take l.ended-index l.drops)
