use Rattle.std.proofs.Common.{rules}
use Rattle.event_sinks.proofs.listener.Ended.handed.Goals as goal

pub returns : goal.returns
returns c = search rules
