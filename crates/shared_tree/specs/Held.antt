-- What the value behind the lock keeps, and what its own functions say. No public clause cites this module.
use Rattle.std.specs.Prelude.{◌≡◌, ◌<◌, ◌≤◌, ◌+◌, ◌↔◌, ◌⊎◌, ⊤, ℕ, zero, suc, List, [], ◌∷◌, ◌++◌, Option, Some, None}
use Rattle.std.specs.Prelude.{IsSome, IsTrue, map, slice_get}
use Rattle.tree_paths.specs.declared.refusal.Refusal.{Refusal}
use Rattle.tree_paths.specs.declared.refusal.Refusal.TheVariants.{Enomem, JournalFull}
use Rattle.instance_table.specs.declared.instance.Instance.{Instance}
use Rattle.instance_table.specs.Instances.{instance_of}
use Rattle.tree_core.specs.declared.call.Call.{Call}
use Rattle.tree_core.specs.declared.call.Call.TheVariants as call
use Rattle.tree_core.specs.declared.reply.Reply.{Reply}
use Rattle.tree_core.specs.declared.reply.Reply.TheVariants as reply
use Rattle.tree_core.specs.declared.reply.Entry.{Entry}
use Rattle.tree_core.specs.Tree.{Tree, opening}
use Rattle.tree_core.specs.Journal.{IsPast, IsSpent, Journaled, last_place, now}
use Rattle.shared_tree.specs.declared.pipe.Batch.{Batch}
use Rattle.shared_tree.specs.PipeEnds.{Piped}
use Rattle.shared_tree.specs.Pipes.{IsIn, Lacks}
use Rattle.shared_tree.specs.Handed.{AreOfEvents, batch, handed_since, piped_of}

-- ---- what is wanting

-- the journal is full; or it is not, and there is no memory
abbrev pub LacksSpace : Journaled → Refusal → Type 0
LacksSpace old e = ((e ≡ JournalFull) × IsSpent old) ⊎ ((e ≡ Enomem) × ¬ IsSpent old)

-- ---- numbers that rise

-- the numbers rise from the least on, and are below the next
abbrev pub Rises : ℕ → List ℕ → ℕ → Type 0
Rises least [] next = least ≤ next
Rises least (x ∷ xs) next = (least ≤ x) × Rises (x + 1) xs next

abbrev pub IsRising : List ℕ → Type 0
IsRising ns = (next : ℕ) × Rises 1 ns next

-- where the number stands, if it does
abbrev pub IsPlaceOf : List ℕ → ℕ → Option ℕ → Type 0
IsPlaceOf ns id None = Lacks ns id
IsPlaceOf ns id (Some k) = slice_get ns k ≡ Some id

-- ---- pipes, in the order of their numbers

abbrev pub sents : List Piped → List (List Batch)
sents ps = map (λ p. p.sent) ps

-- one more batch in the pipe at an index
abbrev pub pushed_at : List (List Batch) → ℕ → Batch → List (List Batch)
pushed_at [] k b = []
pushed_at (xs ∷ xss) zero b = (xs ++ b ∷ []) ∷ xss
pushed_at (xs ∷ xss) (suc k) b = xs ∷ pushed_at xss k b

abbrev pub FreeAt : List Piped → ℕ → Type 0
FreeAt ps k = (p : Piped) × (slice_get ps k ≡ Some p) × (0 < p.free)

abbrev pub HasRoom : List Piped → Option ℕ → Type 0
HasRoom ps None = ⊤
HasRoom ps (Some k) = FreeAt ps k

-- the pipe of an instance was looked up, and has a free slot if the instance is open
abbrev pub IsPipeFound : List ℕ → List Piped → Tree → Option ℕ → Option ℕ → Type 0
IsPipeFound ns ps t None at = ⊤
IsPipeFound ns ps t (Some id) at = IsSome (instance_of t.instances id) → IsPlaceOf ns id at × HasRoom ps at

-- the pipe of an instance that is open is full
abbrev pub IsFilled : List ℕ → Tree → Option ℕ → Type 0
IsFilled ns t None = ⊥
IsFilled ns t (Some id) = (i : Instance) × (instance_of t.instances id ≡ Some i) × IsIn ns id

-- the instance that a call closes
abbrev pub closed_of : Call → Option ℕ
closed_of (call.Close id) = Some id
closed_of _ = None

abbrev pub where_done : Reply → Batch → Option Batch
where_done reply.Done b = Some b
where_done _ b = None

-- the end batch of that instance, where it is closed
abbrev pub end_of : Option ℕ → ℕ → Reply → Option Batch
end_of None place r = None
end_of (Some id) place r = where_done r (batch id place [])

-- a batch can be handed over to the pipe at this index
abbrev pub IsReady : List ℕ → List Piped → Option ℕ → Option Batch → Type 0
IsReady ns ps at None = ⊤
IsReady ns ps at (Some b) = IsPlaceOf ns b.instance at × HasRoom ps at

-- ---- the locked value

-- of a whole journal: the total is the number of entries; the pipes are those of the instances that were made with one,
-- in order, and each was sent what the journal hands to its instance; the open instances that have a pipe are those
-- with is_piped; an instance that is still to be made has no pipe and was handed nothing; what was handed are events
pub record IsHeldWhole (state : Journaled) (numbers : List ℕ) (sent : List (List Batch)) (total : ℕ) : Type 0 where
  pub counted : total ≡ last_place state
  pub piped : numbers ≡ piped_of state.entries
  pub pushed : sent ≡ map (handed_since state) (piped_of state.entries)
  pub rises : Rises 1 numbers (now state).next_id
  pub below : (id : ℕ) (i : Instance) → instance_of (now state).instances id ≡ Some i → id < (now state).next_id
  pub unmade : (id : ℕ) → (now state).next_id ≤ id → handed_since state id ≡ []
  pub events : (id : ℕ) → AreOfEvents (handed_since state id)
  pub with_pipe : (id : ℕ) (i : Instance) → instance_of (now state).instances id ≡ Some i
      → IsTrue i.is_piped ↔ IsIn numbers id

-- a state whose journal was never cut: what was cut off, and the entries since
abbrev pub whole : Journaled → List Entry → Journaled
whole s past = record { start = opening s.start.limits; place = 0; entries = past ++ s.entries }

-- the same of a state whose journal may have been cut, and of its past
pub record IsHeld (state : Journaled) (numbers : List ℕ) (sent : List (List Batch)) (total : ℕ) : Type 0 where
  pub past : List Entry
  pub is_past : IsPast state.start state.place past
  pub held : IsHeldWhole (whole state past) numbers sent total
