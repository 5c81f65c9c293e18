use Rattle.std.proofs.Common.{rules}
use Rattle.event_sinks.proofs.listener.Listening.end.Goals as goal

pub close-requires : goal.close-requires
close-requires c = search rules
