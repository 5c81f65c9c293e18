use Rattle.std.proofs.Common.{rules}
use Rattle.event_sinks.proofs.count.CountSinkSink.taken.Goals as goal

pub returns : goal.returns
returns c = search rules
