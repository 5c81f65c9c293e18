use Rattle.std.proofs.Common.{rules}
use Rattle.event_sinks.proofs.line.LineSinkSink.close.Goals as goal

pub returns-clause-written : goal.returns-clause-written
returns-clause-written c = search rules
