use Rattle.event_sinks.proofs.Paging.{unfailing_whole}
use Rattle.event_sinks.proofs.laws.unfailing_texts_are_whole.Goals as goal

pub returns : goal.returns
returns c = unfailing_whole
