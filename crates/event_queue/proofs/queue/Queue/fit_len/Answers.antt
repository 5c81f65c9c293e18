use Rattle.std.proofs.Common.{rules}
use Rattle.event_queue.proofs.queue.Queue.fit_len.Goals as goal

pub returns-then-bytes-fit-clause-count : goal.returns-then-bytes-fit-clause-count
returns-then-bytes-fit-clause-count c = search rules
