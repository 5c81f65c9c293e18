use Rattle.std.proofs.Common.{rules}
use Rattle.event_sinks.proofs.listener.Ended.cause.Goals as goal

pub returns : goal.returns
returns c = search rules
