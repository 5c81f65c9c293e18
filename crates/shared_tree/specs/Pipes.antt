-- What contracts see of the end of a pipe that takes, and of the numbers of pipes.
use Rattle.std.specs.Prelude.{◌≡◌, ◌≢◌, ◌⊎◌, ⊤, ℕ, List, [], ◌∷◌, Option, Some, None}
use Rattle.tree_core.specs.declared.reply.Reply.{Reply}
use Rattle.tree_core.specs.declared.reply.Reply.TheVariants as reply
use Rattle.shared_tree.specs.declared.pipe.Batch.{Batch}

-- the receiving end: whose batches it takes, those that it has received, and how many slots its pipe has
pub record Fed : Type 0 where
  pub instance : ℕ
  pub received : List Batch
  pub slots : ℕ

abbrev pub fed : ℕ → List Batch → ℕ → Fed
fed instance received slots = record { instance = instance; received = received; slots = slots }

-- the feed of a new instance, with `slots` slots
abbrev pub feed_of : Reply → ℕ → Option Fed
feed_of (reply.Instance id) slots = Some (fed id [] slots)
feed_of _ slots = None

abbrev pub IsIn : List ℕ → ℕ → Type 0
IsIn [] id = ⊥
IsIn (n ∷ ns) id = (n ≡ id) ⊎ IsIn ns id

-- no number is this one
abbrev pub Lacks : List ℕ → ℕ → Type 0
Lacks [] id = ⊤
Lacks (n ∷ ns) id = (n ≢ id) × Lacks ns id
