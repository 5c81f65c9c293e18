use Rattle.std.proofs.Common.{rules}
use Rattle.event_sinks.proofs.memory.MemorySink.new.Goals as goal

pub returns : goal.returns
returns c = search rules
