use Rattle.event_rules.proofs.Hearing.{events_of-heard, watches_after-heard}
use Rattle.event_rules.proofs.laws.unwatched_files_need_no_notices.Goals as goal

pub returns : goal.returns
returns c = record { events = λ w watches ns h. events_of-heard watches w ns h; watches = λ w watches ns h. watches_after-heard watches w ns h }
