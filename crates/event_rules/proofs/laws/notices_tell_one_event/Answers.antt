use Rattle.event_rules.proofs.EveryCall.{notices-HasOneEvent}
use Rattle.event_rules.proofs.laws.notices_tell_one_event.Goals as goal

pub returns : goal.returns
returns c = notices-HasOneEvent
