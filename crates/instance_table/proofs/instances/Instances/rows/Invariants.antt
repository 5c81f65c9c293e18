use Rattle.std.proofs.Common.{◌≡◌, map, take}
use Rattle.instance_table.specs.Rows.{instance_row}
use Rattle.instance_table.proofs.instances.Instances.rows.Given as goal

abbrev pub invariant-loop-row : goal.invariant-loop-row
invariant-loop-row l = l.rows.items ≡ map instance_row (map (λ o. (o.id, o.instance)) (take l.row-index l.row-items))
