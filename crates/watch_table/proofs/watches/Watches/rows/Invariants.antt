use Rattle.std.proofs.Common.{◌≡◌, map}
use Rattle.std.specs.Map.Iter.{deref_pair}
use Rattle.watch_table.proofs.ByWd.{row_in}
use Rattle.watch_table.proofs.watches.Watches.rows.Given as goal

abbrev pub invariant-loop-wd : goal.invariant-loop-wd
invariant-loop-wd l =
    (goal.iterator-loop-wd).can_next l.wd-iterator ×
    (goal.iterator-loop-wd).is_finite l.wd-iterator ×
    (l.rows.items ≡ map (row_in l.self) (map deref_pair l.yielded))
