use Rattle.event_queue.proofs.FateLemmas.{has_fate}
use Rattle.event_queue.proofs.laws.nothing_is_lost_unsaid.Goals as goal

pub returns : goal.returns
returns c = has_fate
