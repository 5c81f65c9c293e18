use Rattle.std.proofs.Common.{rules}
use Rattle.event_queue.proofs.queue.Queue.with_limit.Goals as goal

pub invariant_of-result : goal.invariant_of-result
invariant_of-result c = search rules
