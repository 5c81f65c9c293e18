use Rattle.std.proofs.Common.{◌≡◌, ◌≤◌, length, take}
use Rattle.instance_table.specs.Opened.{ready_rows, written_over}
use Rattle.instance_table.proofs.instances.ready.ready_rows.Given as goal

abbrev pub invariant-loop-row : goal.invariant-loop-row
invariant-loop-row l = record {
  count : l.count ≡ length (ready_rows (take l.row-index l.rows));
  within : l.count ≤ l.row-index;
  ids : l.out ≡ written_over (ready_rows (take l.row-index l.rows)) l.fn.out;
}
