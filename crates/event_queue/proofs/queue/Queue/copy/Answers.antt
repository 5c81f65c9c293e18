use Rattle.std.proofs.Common.{rules}
use Rattle.event_queue.proofs.queue.Queue.copy.Goals as goal

pub returns-clause-queue : goal.returns-clause-queue
returns-clause-queue c = search rules
