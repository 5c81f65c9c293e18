-- What contracts see of a listener, while it listens and once it has ended.
use Rattle.std.specs.Prelude.{◌≡◌, ◌≢◌, ℕ, ◌<◌, ◌≤◌, zero, suc, Bool, true, false, List, [], ◌∷◌, ◌++◌, length, take}
use Rattle.std.specs.Prelude.{drop, All, Option, Some, None, is_none, ◌⊎◌, ⊤, Err}
use Rattle.record_codec.specs.declared.event.Event.{Event}
use Rattle.shared_tree.specs.declared.pipe.Batch.{Batch}
use Rattle.shared_tree.specs.Handed.{records_of}
use Rattle.shared_tree.specs.Pipes.{Fed}
use Rattle.event_sinks.specs.Sinks.{Foretells, MayAnswer}
use Rattle.event_sinks.specs.declared.listener.Cause.{Cause}
use Rattle.event_sinks.specs.declared.listener.Cause.TheVariants as cause
use Rattle.event_sinks.specs.declared.listener.Intake.{Intake}
use Rattle.event_sinks.specs.declared.listener.Listening.{Listening}
use Rattle.event_sinks.specs.declared.listener.Ended.{Ended}
use Rattle.event_sinks.specs.declared.listener.Step.{Step}
use Rattle.event_sinks.specs.declared.listener.Step.TheVariants as step

-- its number, what its feed is, the batches that it was handed, how many records its sink had taken before the first of
-- them, what the sink took in all, whether it is open, and why the listener ended, if it did
pub record ListenerState : Type 0 where
  pub number : ℕ
  pub feed : Fed
  pub handed : List Batch
  pub started : ℕ
  pub list : List Event
  pub is_open : Bool
  pub cause : Option Cause

abbrev pub listener_state : ℕ → Fed → List Batch → ℕ → List Event → Bool → Option Cause → ListenerState
listener_state number feed handed started list is_open cause =
    record {
      number = number;
      feed = feed;
      handed = handed;
      started = started;
      list = list;
      is_open = is_open;
      cause = cause;
    }

-- the meaning of what a listener has, by what its sink took and whether that is open, and by its cause to end: of one
-- that listens, and of one that has ended
abbrev pub state_of_listener : {S : Type 0} → (S → List Event) → (S → Bool) → Listening S → ListenerState
state_of_listener record_list is_open l =
    listener_state l.intake.number l.intake.feed l.intake.handed.items l.intake.started
    (record_list l.intake.sink) (is_open l.intake.sink) l.cause

abbrev pub state_of_ended : {S : Type 0} → (S → List Event) → (S → Bool) → Ended S → ListenerState
state_of_ended record_list is_open e =
    listener_state e.intake.number e.intake.feed e.intake.handed.items e.intake.started
    (record_list e.intake.sink) (is_open e.intake.sink) (Some e.cause)

-- the sink took the records that were handed, in order; where it refused one, those before it, which are the first of
-- them, and not all
abbrev pub TookBatches : List Batch → List Event → Option Cause → Type 0
TookBatches handed taken (Some (cause.Sink fault)) =
    (k : ℕ) × (k < length (records_of handed)) × (taken ≡ take k (records_of handed))
TookBatches handed taken _ = taken ≡ records_of handed

-- the end batch has no records. Where it ended by that batch, this came last, and once; else none came
abbrev pub IsEndedBy : List Batch → Option Cause → Type 0
IsEndedBy handed (Some cause.Last) =
    (before : List Batch) × (b : Batch) × (handed ≡ before ++ b ∷ []) × (b.records ≡ [])
    × All (λ c. c.records ≢ []) before
IsEndedBy handed _ = All (λ b. b.records ≢ []) handed

-- what holds of every listener: it was handed what its feed has received since the listener was made, its sink took the
-- records of that, and is open until there is a cause to end
pub record IsSoundListener (h : ListenerState) : Type 0 where
  pub received : (earlier : List Batch) × (h.feed.received ≡ earlier ++ h.handed)
  pub took : TookBatches h.handed (drop h.started h.list) h.cause
  pub ended : IsEndedBy h.handed h.cause
  pub open_until : h.is_open ≡ is_none h.cause
  pub within : h.started ≤ length h.list

-- what comes of the records of a batch: the end batch ends it; else all are taken, or those before one that is refused
abbrev pub Puts : List Event → List Event → List Event → Option Cause → Type 0
Puts before records after None = (records ≢ []) × (after ≡ before ++ records)
Puts before records after (Some cause.Last) = (records ≡ []) × (after ≡ before)
Puts before records after (Some (cause.Sink fault)) =
    (k : ℕ) × (k < length records) × (after ≡ before ++ take k records)
Puts before records after (Some _) = ⊥

-- a listener that has no cause to end takes a batch
pub record Takes (old : ListenerState) (b : Batch) (new : ListenerState) : Type 0 where
  pub on : old.cause ≡ None
  pub number : new.number ≡ old.number
  pub started : new.started ≡ old.started
  pub feed : new.feed ≡ record old.feed { received = old.feed.received ++ b ∷ [] }
  pub handed : new.handed ≡ old.handed ++ b ∷ []
  pub puts : Puts old.list b.records new.list new.cause
  pub open_until : new.is_open ≡ is_none new.cause

-- what a step does. The step that finds no memory for one more batch ends it
abbrev pub Steps : ListenerState → ListenerState → Step → Type 0
Steps old new step.Idle = (old.cause ≡ None) × (new ≡ old)
Steps old new step.Took = (b : Batch) × Takes old b new
Steps old new step.Over =
    ((old.cause ≢ None) × (new ≡ old))
    ⊎ ((old.cause ≡ None) × (new ≡ record old { is_open = false; cause = Some cause.Memory }))

-- in a turn that the gate lets through there is a step, and in no other. Once a listener has ended its gate is not
-- asked any more. `passes` says what the gate may answer to a number at a turn
abbrev pub IsTurn : (ℕ → ℕ → Bool → Type 0) → ℕ → ListenerState → ListenerState → Type 0
IsTurn passes turn old new =
    (passes old.number turn true × ((s : Step) × Steps old new s))
    ⊎ ((passes old.number turn false ⊎ (old.cause ≢ None)) × (new ≡ old))

-- what a given number of turns leads to, from turn 0 on
abbrev pub Reaches : (ℕ → ℕ → Bool → Type 0) → ℕ → ListenerState → ListenerState → Type 0
Reaches passes zero old new = new ≡ old
Reaches passes (suc n) old new = (mid : ListenerState) × Reaches passes n old mid × IsTurn passes n mid new

abbrev pub cause_or : Option Cause → Cause → Cause
cause_or None other = other
cause_or (Some first) other = first

-- it was ended from outside: its sink is closed, nothing more was put, and the cause that came first stands
abbrev pub ended_by : ListenerState → Cause → ListenerState
ended_by h given = record h { is_open = false; cause = Some (cause_or h.cause given) }

-- what becomes of records that are put into a sink one by one: it takes them all, or those before the one that it
-- refuses with this fault, which it may answer to that one after them
abbrev pub Answers : {S : Type 0} → (S → List Event) → (S → MayAnswer) → S → List Event → S → Option Cause → Type 0
Answers record_list may_answer old records new None =
    (record_list new ≡ record_list old ++ records) × Foretells (may_answer old) records (may_answer new)
Answers record_list may_answer old records new (Some (cause.Sink fault)) =
    (taken : List Event) × (next : Event) × (rest : List Event) × (records ≡ taken ++ next ∷ rest)
    × (record_list new ≡ record_list old ++ taken) × may_answer old taken next (Err fault)
Answers record_list may_answer old records new (Some _) = ⊤

-- the same of the records of the batches that a listener was handed meanwhile
abbrev pub AnswersBatches : {S : Type 0} → (S → List Event) → (S → MayAnswer) → Intake S → Intake S → Option Cause
    → Type 0
AnswersBatches record_list may_answer old new why =
    (batches : List Batch) × (new.handed.items ≡ old.handed.items ++ batches)
    × Answers record_list may_answer old.sink (records_of batches) new.sink why
