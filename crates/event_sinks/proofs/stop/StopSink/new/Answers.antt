use Rattle.std.proofs.Common.{rules}
use Rattle.event_sinks.proofs.stop.StopSink.new.Goals as goal

pub returns-clause-left : goal.returns-clause-left
returns-clause-left c = search rules
