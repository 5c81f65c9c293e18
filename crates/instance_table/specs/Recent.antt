-- The files whose watchers were looked up last. No public clause cites this module.
use Rattle.std.specs.Option.{option_copied}
use Rattle.instance_table.specs.declared.recent_row.FoundRow.{FoundRow}
use Rattle.instance_table.specs.declared.recent_row.RecentRows.{RecentRows}
use Rattle.instance_table.specs.Instances.{Instances}
use Rattle.instance_table.specs.Watchers.{IsRowOf, row_or_none}

-- they are the instances that watch the file
abbrev pub IsFound : Instances → FoundRow → Type 0
IsFound m found = IsRowOf m found.number (row_or_none (option_copied found.row))

pub record AreFound (m : Instances) (r : RecentRows) : Type 0 where
  pub last : IsFound m r.last
  pub before : IsFound m r.before
