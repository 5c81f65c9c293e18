use Rattle.event_rules.proofs.Others.{events_of-unwatched, wds_ended-unwatched, watches_after-unwatched}
use Rattle.event_rules.proofs.laws.unwatched_files_raise_nothing.Goals as goal

pub returns : goal.returns
returns c = record { events = events_of-unwatched; ended = wds_ended-unwatched; watches = watches_after-unwatched }
