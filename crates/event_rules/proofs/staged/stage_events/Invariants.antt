use Rattle.std.proofs.Common.{◌≡◌, ◌++◌, take, map}
use Rattle.event_rules.specs.Raised.{events_of, wds_ended}
use Rattle.event_rules.specs.Recent.{AreFound}
use Rattle.event_rules.specs.Staging.{staged_event}
use Rattle.event_rules.proofs.staged.stage_events.Given as goal

abbrev pub invariant-loop-notice : goal.invariant-loop-notice
invariant-loop-notice l = record {
  events : l.events.items ≡ l.initial.events.items ++ map (staged_event l.id) (events_of l.watches (take l.notice-index l.notices));
  found : AreFound l.watches l.recent;
  ended : l.wds.items ≡ wds_ended l.watches (take l.notice-index l.notices);
}
