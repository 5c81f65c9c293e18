use Rattle.std.proofs.Common.{rules}
use Rattle.watch_table.proofs.rows.WatchRows.as_slice.Goals as goal

pub returns : goal.returns
returns c = search rules
