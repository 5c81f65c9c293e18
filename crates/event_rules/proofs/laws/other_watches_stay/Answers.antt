use Rattle.event_rules.proofs.Others.{part-after, stays_or_ended, after-IsSound}
use Rattle.event_rules.proofs.laws.other_watches_stay.Goals as goal

pub returns : goal.returns
returns c = record { part = part-after; rest = stays_or_ended; sound = after-IsSound c.watches_stay_sound.ensures.dropped }
