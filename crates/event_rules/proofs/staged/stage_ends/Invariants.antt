use Rattle.std.proofs.Common.{◌≡◌, ◌++◌, take, map}
use Rattle.event_rules.specs.Staging.{staged_end}
use Rattle.event_rules.proofs.staged.stage_ends.Given as goal

abbrev pub invariant-loop-wd : goal.invariant-loop-wd
invariant-loop-wd l = l.drops.items ≡ l.initial.drops.items ++ map (staged_end l.id) (take l.wd-index l.wds)
