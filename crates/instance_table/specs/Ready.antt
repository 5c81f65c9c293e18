-- Which open instances have a record waiting.
use Rattle.std.specs.Prelude.{ℕ, List, length, nat_lt}
use Rattle.std.specs.FinMap as finmap
use Rattle.std.specs.List.{filter}
use Rattle.instance_table.specs.Instances.{Instances, instance_of, waiting_of}

-- the numbers of the open instances that have a record waiting, rising: those whose descriptors poll(2) calls readable
unfoldable pub ready_in : Instances → List ℕ
ready_in m = filter (λ id. nat_lt 0 (length (waiting_of (instance_of m id)))) (finmap.keys m)
