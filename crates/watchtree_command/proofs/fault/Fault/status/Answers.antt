use Rattle.std.proofs.Common.{rules}
use Rattle.watchtree_command.proofs.fault.Fault.status.Goals as goal

pub returns-in-Memory : goal.returns-in-Memory
returns-in-Memory c = search rules
