-- What a journal hands to the pipes of its instances.
use Rattle.std.specs.Prelude.{◌≡◌, ℕ, ◌+◌, ◌<◌, ◌≤◌, true, List, [], ◌∷◌, ◌++◌, Option, Some, None, is_none, option_map}
use Rattle.std.specs.Prelude.{if◌then◌else◌, flat_map}
use Rattle.std.specs.List.{AllByRecursion}
use Rattle.record_codec.specs.declared.event.Event.{Event}
use Rattle.record_codec.specs.Records.{AreEvents, spelling}
use Rattle.tree_paths.specs.declared.limits.Limits.{Limits}
use Rattle.instance_table.specs.Instances.{instance_of}
use Rattle.tree_core.specs.declared.call.Call.{Call}
use Rattle.tree_core.specs.declared.call.Call.TheVariants as call
use Rattle.tree_core.specs.declared.reply.Entry.{Entry}
use Rattle.tree_core.specs.declared.reply.Reply.{Reply}
use Rattle.tree_core.specs.declared.reply.Reply.TheVariants as reply
use Rattle.tree_core.specs.Tree.{Tree, opening, refusal_of, reply_of, after}
use Rattle.tree_core.specs.Histories.{pumped, read_in, if_same}
use Rattle.tree_core.specs.Journal.{Journaled, IsLawful, IsPast}
use Rattle.shared_tree.specs.declared.pipe.Batch.{Batch}

abbrev pub batch : ℕ → ℕ → List Event → Batch
batch instance place records = record { instance = instance; place = place; records = records }

-- the batch that a call with this sequence number hands over: a pump its records, a close the end batch, which has
-- none. A refused call hands over nothing
abbrev pub handed_by : Tree → ℕ → Call → Option Batch
handed_by t place (call.Pump id bytes) = option_map (batch id place) (pumped t id bytes)
handed_by t place (call.Close id) = if is_none (refusal_of t (call.Close id)) then Some (batch id place []) else None
handed_by t place _ = None

-- that batch, where it is the instance's
abbrev pub hands : Option Batch → ℕ → List Batch
hands None id = []
hands (Some b) id = if_same b.instance id (b ∷ [])

-- a batch more in the pipe of its instance, where it has one
abbrev pub deliver : Option Batch → List ℕ → List (List Batch) → List (List Batch)
deliver o [] xss = []
deliver o (n ∷ ns) [] = []
deliver o (n ∷ ns) (xs ∷ xss) = (xs ++ hands o n) ∷ deliver o ns xss

abbrev pub handed_from : Tree → ℕ → List Entry → ℕ → List Batch
handed_from t place [] id = []
handed_from t place (e ∷ es) id = hands (handed_by t place e.call) id ++ handed_from (after t e.call) (place + 1) es id

-- what a whole journal hands to an instance, in order. Sequence numbers begin at 1
unfoldable pub handed : Limits → List Entry → ℕ → List Batch
handed limits es id = handed_from (opening limits) 1 es id

-- what the entries since the last cut hand to an instance, in order
unfoldable pub handed_since : Journaled → ℕ → List Batch
handed_since s id = handed_from s.start (s.place + 1) s.entries id

-- the number of the instance with a pipe that an entry made
abbrev pub piped_by : Call → Reply → List ℕ
piped_by (call.Init limit true) (reply.Instance id) = id ∷ []
piped_by _ _ = []

-- the numbers of all instances with a pipe that a journal made, in order
abbrev pub piped_of : List Entry → List ℕ
piped_of [] = []
piped_of (e ∷ es) = piped_by e.call e.reply ++ piped_of es

-- each batch is of events, whose values fit their types
abbrev pub AreOfEvents : List Batch → Type 0
AreOfEvents bs = AllByRecursion (λ b. AreEvents b.records) bs

-- the call that handed a batch over answered so: a pump answered the bytes of its records, and a close was done
abbrev pub IsAnswered : Call → Reply → Batch → Type 0
IsAnswered (call.Pump id bytes) r b = (b.instance ≡ id) × (r ≡ reply.Records (spelling b.records))
IsAnswered (call.Close id) r b = (b.instance ≡ id) × (b.records ≡ []) × (r ≡ reply.Done)
IsAnswered _ r b = ⊥

abbrev pub BatchesAreAnswered : Type 0
BatchesAreAnswered =
    (t : Tree) (place : ℕ) (c : Call) (b : Batch) → handed_by t place c ≡ Some b
    → (b.place ≡ place) × IsAnswered c (reply_of t c) b

-- nothing follows the end batch: a batch without records is the last
abbrev pub NothingFollowsTheEnd : List Batch → Type 0
NothingFollowsTheEnd bs = (before rest : List Batch) (b : Batch) → bs ≡ before ++ b ∷ rest → b.records ≡ [] → rest ≡ []

abbrev pub EndBatchesComeLast : Type 0
EndBatchesComeLast = (limits : Limits) (es : List Entry) (id : ℕ) → NothingFollowsTheEnd (handed limits es id)

-- the records of batches, one batch after another
abbrev pub records_of : List Batch → List Event
records_of bs = flat_map (λ b. b.records) bs

-- a state and its past hand an instance first what the past hands it, with sequence numbers up to the cut, and then
-- what the entries since hand it, with later ones. If an end batch is among the first, it is their last, and the
-- instance is closed at the cut
pub record IsParted (s : Journaled) (past : List Entry) (id : ℕ) : Type 0 where
  pub parted : handed s.start.limits (past ++ s.entries) id ≡ handed s.start.limits past id ++ handed_since s id
  pub early : AllByRecursion (λ b. b.place ≤ s.place) (handed s.start.limits past id)
  pub late : AllByRecursion (λ b. s.place < b.place) (handed_since s id)
  pub ended : (before rest : List Batch) (b : Batch) → handed s.start.limits past id ≡ before ++ b ∷ rest
      → b.records ≡ [] → (rest ≡ []) × (instance_of s.start.instances id ≡ None)

abbrev pub CutsPartBatches : Type 0
CutsPartBatches = (s : Journaled) (past : List Entry) (id : ℕ) → IsPast s.start s.place past → IsParted s past id

-- what a lawful journal hands to an instance with a pipe is what it reads of that instance
abbrev pub SentIsRead : Type 0
SentIsRead =
    (limits : Limits) (es : List Entry) → IsLawful limits es
    → AllByRecursion (λ id. records_of (handed limits es id) ≡ read_in (opening limits) es id) (piped_of es)
