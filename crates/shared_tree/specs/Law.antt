-- What holds of the pipes whenever the lock is free.
use Rattle.std.specs.Prelude.{◌≡◌, ◌↔◌, ℕ, Some, IsTrue}
use Rattle.instance_table.specs.declared.instance.Instance.{Instance}
use Rattle.instance_table.specs.Instances.{instance_of}
use Rattle.tree_core.specs.Journal.{now}
use Rattle.shared_tree.specs.Calls.{TreeWithPipes}
use Rattle.shared_tree.specs.Pipes.{IsIn}

-- an open instance has a pipe exactly where it was made with one
abbrev pub HasPipesOfPiped : TreeWithPipes → Type 0
HasPipesOfPiped h =
    (id : ℕ) (i : Instance) → instance_of (now h.state).instances id ≡ Some i → IsTrue i.is_piped ↔ IsIn h.pipes id
