use Rattle.std.proofs.Common.{rules}
use Rattle.event_sinks.proofs.count.CountSinkSink.put.Goals as goal

pub returns-clause-err : goal.returns-clause-err
returns-clause-err c = search rules
