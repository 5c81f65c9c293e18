use Rattle.event_rules.proofs.Others.{events_of-HasWatch}
use Rattle.event_rules.proofs.laws.events_are_of_watches.Goals as goal

pub returns : goal.returns
returns c = events_of-HasWatch
