use Rattle.std.proofs.Common.{◌≡◌, take}
use Rattle.watch_table.specs.declared.watch.Watch.{Watch}
use Rattle.event_rules.specs.Staging.{ended_before, is_ended}
use Rattle.event_rules.proofs.ended.EndedWatches.of.Given as goal

abbrev pub invariant-loop-notice : goal.invariant-loop-notice
invariant-loop-notice l = (watch : Watch) → is_ended l.ended watch ≡ ended_before (take l.notice-index l.notices) l.number watch
