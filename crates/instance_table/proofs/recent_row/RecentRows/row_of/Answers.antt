use Rattle.std.proofs.Common.{rules}
use Rattle.instance_table.proofs.recent_row.RecentRows.row_of.Goals as goal

pub returns-then-number-self-clause-row : goal.returns-then-number-self-clause-row
returns-then-number-self-clause-row c = search rules
