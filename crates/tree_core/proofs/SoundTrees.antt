-- What the laws of journals take from sound trees.
use Rattle.std.proofs.Common.{◌≡◌, ℕ, ◌<◌, ◌≤◌, Option, Some, None, is_some, refl, ap, arith}
use Rattle.std.specs.Prelude.{IfSome}
use Rattle.watch_table.specs.Watching.{IsSound}
use Rattle.instance_table.specs.declared.instance.Instance.{Instance}
use Rattle.instance_table.specs.Instances.{instance_of}
use Rattle.tree_core.specs.Tree.{Tree}
use Rattle.tree_core.specs.Sound.{IsSoundInstance, IsSoundTree}
use Rattle.tree_core.proofs.SoundWatches.{WatchesAreSound}

of-open : (P : Instance → Type 0) (o : Option Instance) → ((i : Instance) → o ≡ Some i → P i) → IfSome o P
of-open P None h = tt
of-open P (Some i) h = h i refl

pub sound-if-open : (t : Tree) → IsSoundTree t → (id : ℕ) → IfSome (instance_of t.instances id) (IsSoundInstance t)
sound-if-open t is id = of-open (IsSoundInstance t) (instance_of t.instances id) (is.instances id)

pub sound-watches : (t : Tree) → IsSoundTree t → WatchesAreSound t
sound-watches t is = λ id. of-open (λ i. IsSound i.watches) (instance_of t.instances id) (λ i at. (is.instances id i at).watches)

-- no instance is open under a number that was not given yet
pub sound-ahead : (t : Tree) → IsSoundTree t → (id : ℕ) → t.next_id ≤ id → instance_of t.instances id ≡ None
sound-ahead t is id past = by (instance_of t.instances id) refl
  where
    by : (o : Option Instance) → instance_of t.instances id ≡ o → o ≡ None
    by None at = refl
    by (Some i) at = let below : id < t.next_id = is.counted.opened id (ap is_some at) in absurd (omega arith)
