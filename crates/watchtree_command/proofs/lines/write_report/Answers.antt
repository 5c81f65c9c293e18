use Rattle.std.proofs.Common.{rules}
use Rattle.watchtree_command.proofs.lines.write_report.Goals as goal

pub returns : goal.returns
returns c = search rules
