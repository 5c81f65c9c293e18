use Rattle.std.proofs.Common.{rules}
use Rattle.watchtree_command.proofs.command_line.invocation_at.Goals as goal

pub returns-then-eq-clause-asks : goal.returns-then-eq-clause-asks
returns-then-eq-clause-asks c = search rules
