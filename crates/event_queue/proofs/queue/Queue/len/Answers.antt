use Rattle.std.proofs.Common.{rules}
use Rattle.event_queue.proofs.queue.Queue.len.Goals as goal

pub returns-clause-len : goal.returns-clause-len
returns-clause-len c = search rules
