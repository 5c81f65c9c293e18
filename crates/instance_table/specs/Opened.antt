-- Open instances in the order of their numbers. No public clause cites this module.
use Rattle.std.specs.Prelude.{ℕ, List, ◌++◌, length, take, drop, map, nat_lt}
use Rattle.std.specs.List.{filter}
use Rattle.std.specs.FinMap as finmap
use Rattle.instance_table.specs.declared.opened.Opened.{Opened}
use Rattle.instance_table.specs.Instances.{Instances}

-- the numbers of open instances
abbrev pub ids_of : List Opened → List ℕ
ids_of rows = map (λ o. o.id) rows

-- the open instances by their numbers
abbrev pub by_number : List Opened → Instances
by_number rows = finmap.from_entries (map (λ o. (o.id, o.instance)) rows)

-- the numbers of those that have a record waiting
abbrev pub ready_rows : List Opened → List ℕ
ready_rows rows = ids_of (filter (λ o. nat_lt 0 (length o.instance.queue.waiting)) rows)

-- numbers written over the front of others, as many as these are
abbrev pub written_over : List ℕ → List ℕ → List ℕ
written_over ids old = take (length old) ids ++ drop (length ids) old
