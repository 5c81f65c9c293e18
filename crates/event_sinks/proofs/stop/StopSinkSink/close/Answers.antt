use Rattle.std.proofs.Common.{rules}
use Rattle.event_sinks.proofs.stop.StopSinkSink.close.Goals as goal

pub returns-clause-closed : goal.returns-clause-closed
returns-clause-closed c = search rules
