-- What a sink wrote, and what the sink of a listener wrote.
use Rattle.std.specs.Prelude.{◌≡◌, ◌<◌, ◌-◌, ◌^◌, ℕ, List, [], ◌∷◌, ◌++◌, flat_map, length, take, Option, Some, None}
use Rattle.std.specs.Prelude.{Result, Ok, Err, ◌⊎◌}
use Rattle.std.specs.Io.KnownBytes.{Appends}
use Rattle.record_codec.specs.declared.event.Event.{Event}
use Rattle.record_codec.specs.Ports.{one_more}
use Rattle.shared_tree.specs.declared.pipe.Batch.{Batch}
use Rattle.shared_tree.specs.Handed.{records_of}
use Rattle.event_sinks.specs.declared.fault.SinkFault.{SinkFault}
use Rattle.event_sinks.specs.declared.fault.SinkFault.TheVariants as fault
use Rattle.event_sinks.specs.declared.listener.Cause.{Cause}
use Rattle.event_sinks.specs.declared.listener.Cause.TheVariants as cause
use Rattle.event_sinks.specs.declared.listener.Intake.{Intake}

-- what a sink wrote, where that can be known, and how many of its writes failed; and what it writes for a record, and
-- at its close, given how many records it took
pub record Page : Type 0 where
  pub bytes : Option (List ℕ)
  pub faults : ℕ
  pub line : Event → List ℕ
  pub closing : ℕ → List ℕ

-- of a sink that writes nothing
abbrev pub blank : Page
blank = record { bytes = Some []; faults = 0; line = λ _. []; closing = λ _. [] }

-- all of the text was written, and no write failed
abbrev pub Gains : Page → List ℕ → Page → Type 0
Gains old text new = Appends old.bytes new.bytes text × (new ≡ record old { bytes = new.bytes })

-- a front of it was written, and then a write failed
abbrev pub GainsFront : Page → List ℕ → Page → Type 0
GainsFront old text new =
    ((n : ℕ) × Appends old.bytes new.bytes (take n text))
    × (new ≡ record old { bytes = new.bytes; faults = one_more old.faults })

-- an accepted record's line was written; where a write failed a front of it; where it was refused for another cause
-- nothing
abbrev pub PutsText : Page → Event → Result (Unit {0}) SinkFault → Page → Type 0
PutsText old next (Ok _) new = Gains old (old.line next) new
PutsText old next (Err fault.Write) new = GainsFront old (old.line next) new
PutsText old next (Err _) new = new ≡ old

-- a sink that took `taken` records is closed. A failing write is passed over
abbrev pub ClosesText : Page → ℕ → Page → Type 0
ClosesText old taken new = Gains old (old.closing taken) new ⊎ GainsFront old (old.closing taken) new

-- ---- what the sink of a listener wrote

-- while records were put into it one by one, and it took them all: the line of each; where it refused one, the lines of
-- those before it, which it took, and then what came of that one's
abbrev pub WritesRecords : {S : Type 0} → (S → List Event) → (S → Page) → S → List Event → S → Option Cause → Type 0
WritesRecords record_list page old records new (Some (cause.Sink fault)) =
    (taken : List Event) × (next : Event) × (rest : List Event) × (records ≡ taken ++ next ∷ rest)
    × (record_list new ≡ record_list old ++ taken) × (mid : Page)
    × Gains (page old) (flat_map (page old).line taken) mid × PutsText mid next (Err fault) (page new)
WritesRecords record_list page old records new _ =
    (record_list new ≡ record_list old ++ records) × Gains (page old) (flat_map (page old).line records) (page new)

-- at its close
abbrev pub WritesClose : {S : Type 0} → (S → List Event) → (S → Page) → S → S → Type 0
WritesClose record_list page old new =
    (record_list new ≡ record_list old) × ClosesText (page old) (length (record_list old)) (page new)

-- while the records were put, and then, where there is a cause to end, at its close
abbrev pub Writes : {S : Type 0} → (S → List Event) → (S → Page) → S → List Event → S → Option Cause → Type 0
Writes {S} record_list page old records new None = WritesRecords record_list page old records new None
Writes {S} record_list page old records new (Some why) =
    (last : S) × WritesRecords record_list page old records last (Some why) × WritesClose record_list page last new

-- the same of the records of the batches that a listener was handed meanwhile
abbrev pub WritesBatches : {S : Type 0} → (S → List Event) → (S → Page) → Intake S → Intake S → Option Cause → Type 0
WritesBatches record_list page old new why =
    (batches : List Batch) × (new.handed.items ≡ old.handed.items ++ batches)
    × Writes record_list page old.sink (records_of batches) new.sink why

-- ---- a law

-- where no write failed, the text is the lines and what stands at the close, whole
abbrev pub UnfailingTextsAreWhole : Type 0
UnfailingTextsAreWhole =
    (old last new : Page) (records : List Event) (taken : ℕ)
    → Gains old (flat_map old.line records) last → ClosesText last taken new → new.faults ≡ old.faults
    → old.faults < 2 ^ 64 - 1
    → Appends old.bytes new.bytes (flat_map old.line records ++ old.closing taken)
