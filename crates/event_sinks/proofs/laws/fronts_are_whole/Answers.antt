use Rattle.event_sinks.proofs.Agreeing.{fronts-are-whole}
use Rattle.event_sinks.proofs.laws.fronts_are_whole.Goals as goal

pub returns : goal.returns
returns c = fronts-are-whole c.end_batches_come_last.ensures c.cuts_part_batches.ensures
