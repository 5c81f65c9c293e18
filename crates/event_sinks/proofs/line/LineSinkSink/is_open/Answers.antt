use Rattle.std.proofs.Common.{rules}
use Rattle.event_sinks.proofs.line.LineSinkSink.is_open.Goals as goal

pub returns : goal.returns
returns c = search rules
