use Rattle.std.proofs.Common.{◌++◌, Option, sym, ap, ◌∙◌}
use Rattle.std.specs.FinMap as finmap
use Rattle.std.specs.FinMap.{get-empty}
use Rattle.std.specs.Option.{option_copied}
use Rattle.std.specs.Ordering.{nat_cmp}
use Rattle.std.proofs.lemmas.List.{append-nil}
use Rattle.watch_table.specs.declared.watch.Watch.{Watch}
use Rattle.event_rules.specs.Raised.{ended_by, raised_at, told_number}
use Rattle.event_rules.specs.Staging.{left_before}
use Rattle.instance_table.specs.Staging.{events_to, wds_to}
use Rattle.instance_table.specs.Watchers.{row_or_none}
use Rattle.instance_table.proofs.row.stage_row.Goals as goal

pub returns-in_default-clause-events : goal.returns-in_default-clause-events
returns-in_default-clause-events c q =
    let front = events_to q c.args.staged.now.events.items in
    let rest = λ (o : Option Watch). front ++ raised_at c.args.notice.now (left_before c.args.before.now (told_number c.args.notice.now) o) in
    sym (ap (λ row. rest (finmap.get (row_or_none (option_copied row)) q)) c.in_default.is ∙ ap rest (get-empty nat_cmp q) ∙ append-nil front)

pub returns-in_default-clause-drops : goal.returns-in_default-clause-drops
returns-in_default-clause-drops c q =
    let front = wds_to q c.args.staged.now.drops.items in
    let rest = λ (o : Option Watch). front ++ ended_by c.args.notice.now (left_before c.args.before.now (told_number c.args.notice.now) o) in
    sym (ap (λ row. rest (finmap.get (row_or_none (option_copied row)) q)) c.in_default.is ∙ ap rest (get-empty nat_cmp q) ∙ append-nil front)
