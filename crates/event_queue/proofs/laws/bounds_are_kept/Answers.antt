use Rattle.event_queue.proofs.FateLemmas.{keeps_bounds}
use Rattle.event_queue.proofs.laws.bounds_are_kept.Goals as goal

pub returns : goal.returns
returns c = keeps_bounds
