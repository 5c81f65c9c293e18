use Rattle.std.proofs.Common.{rules}
use Rattle.event_queue.proofs.queue.Queue.limit.Goals as goal

pub returns-clause-value : goal.returns-clause-value
returns-clause-value c = search rules
