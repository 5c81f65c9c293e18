-- What contracts see of the sinks that keep records, and of what any sink may answer.
use Rattle.std.specs.Prelude.{ℕ, Bool, List, ◌++◌, Result}
use Rattle.record_codec.specs.declared.event.Event.{Event}
use Rattle.event_sinks.specs.declared.fault.SinkFault.{SinkFault}

-- what a sink may answer where it is put a record, once it has taken those before it
abbrev pub MayAnswer : Type 1
MayAnswer = List Event → Event → Result (Unit {0}) SinkFault → Type 0

-- what it may answer once it took these records is what it might have answered, before, after them
abbrev pub Foretells : MayAnswer → List Event → MayAnswer → Type 0
Foretells before taken after =
    (more : List Event) (next : Event) (answer : Result (Unit {0}) SinkFault) → after more next answer
    → before (taken ++ more) next answer

-- the records that a sink took, the oldest first, and whether it is open
pub record Taking : Type 0 where
  pub records : List Event
  pub is_open : Bool

abbrev pub taking : List Event → Bool → Taking
taking records is_open = record { records = records; is_open = is_open }

-- the same of a sink that takes `most` records
pub record Counting : Type 0 where
  pub most : ℕ
  pub records : List Event
  pub is_open : Bool

abbrev pub counting : ℕ → List Event → Bool → Counting
counting most records is_open = record { most = most; records = records; is_open = is_open }
