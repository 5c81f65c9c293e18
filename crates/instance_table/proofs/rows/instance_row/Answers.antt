use Rattle.std.proofs.Common.{rules}
use Rattle.instance_table.proofs.rows.instance_row.Goals as goal

pub returns-clause-ok : goal.returns-clause-ok
returns-clause-ok c = search rules
