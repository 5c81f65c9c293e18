use Rattle.std.proofs.Common.{◌≡◌, ℕ, cond, [], ◌++◌}
use Rattle.std.specs.FinMap as finmap
use Rattle.event_rules.specs.Raised.{ended_by, raised_at}
use Rattle.instance_table.specs.Staging.{events_to, wds_to}
use Rattle.file_watchers.specs.Watchers.{watchers_map}
use Rattle.instance_table.specs.Watchers.{unless_ended}
use Rattle.instance_table.proofs.Staged.{is_among}
use Rattle.instance_table.proofs.row.stage_rest.Given as goal

abbrev pub invariant-loop-index : goal.invariant-loop-index
invariant-loop-index l = record {
  events : (q : ℕ) → events_to q l.staged.events.items ≡ events_to q l.initial.staged.events.items
      ++ cond (is_among l.ids l.index q) (raised_at l.notice (unless_ended l.ended (finmap.get (watchers_map l.ids l.watches) q))) [];
  drops : (q : ℕ) → wds_to q l.staged.drops.items ≡ wds_to q l.initial.staged.drops.items
      ++ cond (is_among l.ids l.index q) (ended_by l.notice (unless_ended l.ended (finmap.get (watchers_map l.ids l.watches) q))) [];
}
