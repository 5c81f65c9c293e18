-- What a sink writes, and what became of it.
use Rattle.std.specs.Prelude.{◌≡◌, ℕ, List, ◌++◌, take, codes, decimal, Option, Result, Ok, Err, ◌⊎◌}
use Rattle.std.specs.Io.KnownBytes.{Appends}
use Rattle.record_codec.specs.declared.event.Event.{Event}
use Rattle.record_codec.specs.declared.port.Port.{Port}
use Rattle.record_codec.specs.Ports.{inner_of, faults_of, one_more}
use Rattle.record_codec.specs.Lines.{record_line}
use Rattle.event_sinks.specs.declared.fault.SinkFault.{SinkFault}
use Rattle.event_sinks.specs.declared.fault.SinkFault.TheVariants as fault

-- the line of a record, and the closing line of a sink that took `taken` records
abbrev pub line_of : Event → List ℕ
line_of e = record_line e ++ codes "\n"

abbrev pub closing_line : ℕ → List ℕ
closing_line taken = codes "closed " ++ decimal taken ++ codes "\n"

-- all the bytes were written, and no write failed
abbrev pub WritesAll : {W : Type 0} → (W → Option (List ℕ)) → Port W → List ℕ → Port W → Type 0
WritesAll contents old bytes new =
    Appends (contents (inner_of old)) (contents (inner_of new)) bytes × (faults_of new ≡ faults_of old)

-- a front of them was written, and then a write failed
abbrev pub WritesFront : {W : Type 0} → (W → Option (List ℕ)) → Port W → List ℕ → Port W → Type 0
WritesFront contents old bytes new =
    ((n : ℕ) × Appends (contents (inner_of old)) (contents (inner_of new)) (take n bytes))
    × (faults_of new ≡ one_more (faults_of old))

-- an accepted record's line was written; after a failed write a prefix of it; if out of memory nothing
abbrev pub PutsLine : {W : Type 0} → (W → Option (List ℕ)) → Port W → List ℕ → Result (Unit {0}) SinkFault → Port W
    → Type 0
PutsLine contents old line (Ok _) new = WritesAll contents old line new
PutsLine contents old line (Err fault.Memory) new = new ≡ old
PutsLine contents old line (Err fault.Write) new = WritesFront contents old line new
PutsLine contents old line (Err fault.Full) new = ⊥

-- a failing write is passed over
abbrev pub WritesClosing : {W : Type 0} → (W → Option (List ℕ)) → Port W → List ℕ → Port W → Type 0
WritesClosing contents old line new = WritesAll contents old line new ⊎ WritesFront contents old line new
