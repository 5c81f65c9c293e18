use Rattle.std.proofs.Common.{rules}
use Rattle.watch_table.proofs.rows.WatchRows.from_vec.Goals as goal

pub returns : goal.returns
returns c = search rules
