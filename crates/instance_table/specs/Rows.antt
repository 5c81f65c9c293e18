-- Open instances as rows.
use Rattle.std.specs.Prelude.{ℕ}
use Rattle.watch_table.specs.Rows.{watch_rows}
use Rattle.instance_table.specs.declared.instance.Instance.{Instance}
use Rattle.instance_table.specs.declared.rows.InstanceRow.{InstanceRow}

-- an open instance, with its number
abbrev pub instance_row : ℕ × Instance → InstanceRow
instance_row e = record {
  id = e.0;
  limit = e.1.queue.limit;
  piped = e.1.is_piped;
  watches = watch_rows e.1.watches;
  next_wd = e.1.watches.next_wd;
  waiting = e.1.queue.waiting;
}
