use Rattle.std.proofs.Common.{rules}
use Rattle.event_sinks.proofs.listener.Listening.new.Goals as goal

pub returns-clause-state : goal.returns-clause-state
returns-clause-state c = search rules
