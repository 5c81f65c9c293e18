-- What contracts see of the ends that hand over, and of the pipes of a tree. No public clause cites this module.
use Rattle.std.specs.Prelude.{ℕ, Bool, List}
use Rattle.shared_tree.specs.declared.pipe.Batch.{Batch}

-- the sending end: what it has sent, and how many slots it knows to be free
pub record Piped : Type 0 where
  pub sent : List Batch
  pub free : ℕ

abbrev pub piped : List Batch → ℕ → Piped
piped sent free = record { sent = sent; free = free }

-- the pipes of a tree, in the order of the numbers of their instances: these numbers, the sending ends, and whether
-- there is capacity for one more pipe
pub record PipesState : Type 0 where
  pub numbers : List ℕ
  pub ends : List Piped
  pub has_room : Bool

abbrev pub pipes_state : List ℕ → List Piped → Bool → PipesState
pipes_state numbers ends has_room = record { numbers = numbers; ends = ends; has_room = has_room }
