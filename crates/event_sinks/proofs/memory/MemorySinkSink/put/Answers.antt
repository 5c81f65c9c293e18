use Rattle.std.proofs.Common.{rules}
use Rattle.event_sinks.proofs.memory.MemorySinkSink.put.Goals as goal

pub returns-clause-ok : goal.returns-clause-ok
returns-clause-ok c = search rules
