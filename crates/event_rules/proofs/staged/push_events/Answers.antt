use Rattle.std.proofs.Common.{rules, ◌≡◌, true}
use Rattle.event_rules.specs.Raised.{ends_watch}
use Rattle.event_rules.proofs.Stages.{heard_ended}
use Rattle.event_rules.proofs.staged.push_events.Goals as goal

pub returns-in_ok-push_back-clause-events : goal.returns-in_ok-push_back-clause-events
returns-in_ok-push_back-clause-events c =
    let n = c.args.notice.now in
    let ends : ends_watch n c.args.watch ≡ true = search rules in
    let raised = heard_ended c.args.id n c.args.watch c.args.events.now.items c.push_told.new.events.items
    c.push_back.new.self.items ends c.in_ok-push_told.ensures (search rules) in
    search rules
