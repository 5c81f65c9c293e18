-- What is printed of a storm, and how the program ends then.
use Rattle.std.specs.Prelude.{◌≡◌, ◌≢◌, ◌⊎◌, ℕ, List, [], ◌++◌, Option, codes, decimal, take, Result, Ok, Err}
use Rattle.std.specs.Io.KnownBytes.{Appends}
use Rattle.std.specs.List.{flat_map}
use Rattle.record_codec.specs.Ports.{one_more}
use Rattle.event_sinks.specs.declared.audit.Settled.{Settled}
use Rattle.event_sinks.specs.declared.audit.SettleFault.{SettleFault}
use Rattle.event_sinks.specs.declared.audit.SettleFault.TheVariants as settle
use Rattle.event_sinks.specs.declared.listener.Cause.{Cause}
use Rattle.event_sinks.specs.declared.listener.Cause.TheVariants as cause
use Rattle.watchtree_storm.specs.declared.course.Stormed.{Stormed}
use Rattle.watchtree_script.specs.declared.fault.RunFault.TheVariants as run
use Rattle.watchtree_command.specs.declared.fault.Fault.{Fault}
use Rattle.watchtree_command.specs.declared.fault.Fault.TheVariants.{CommandLine, Memory, Run, Settle}

-- why a listener ended, in a word
abbrev pub cause_word : Cause → List ℕ
cause_word cause.Last = codes "last"
cause_word cause.Turns = codes "turns"
cause_word cause.Given = codes "given"
cause_word (cause.Sink fault) = codes "sink"
cause_word cause.Memory = codes "memory"

-- a listener: its number, why it ended, and how many records its sink took
abbrev pub listener_line : ℕ × Cause × ℕ → List ℕ
listener_line l =
    codes "listener " ++ decimal l.0 ++ codes " " ++ cause_word l.1 ++ codes " " ++ decimal l.2 ++ codes "\n"

-- that the book is settled, where it is
abbrev pub settled_line : Result Settled SettleFault → List ℕ
settled_line (Ok s) = codes "settled\n"
settled_line (Err fault) = []

abbrev pub report_of : Stormed → List ℕ
report_of s =
    codes "entries " ++ decimal s.entries ++ codes "\n" ++ flat_map listener_line s.listeners.items
    ++ settled_line s.settled

-- what each fault at the end of a storm says about the book and the lines that were written: the book's own fault, or
-- out of memory while settling it, all lines; a failed write, a prefix of them; out of memory for the lines, none.
-- There is no other fault
abbrev pub EndTells : Stormed → Fault → Option (List ℕ) → Option (List ℕ) → Type 0
EndTells s (Settle fault) old new = (s.settled ≡ Err fault) × (fault ≢ settle.Memory) × Appends old new (report_of s)
EndTells s (Run run.Write) old new = (n : ℕ) × Appends old new (take n (report_of s))
EndTells s (Run _) old new = ⊥
EndTells s Memory old new = (new ≡ old) ⊎ ((s.settled ≡ Err settle.Memory) × Appends old new (report_of s))
EndTells s CommandLine old new = ⊥

-- a write that failed is the only one that is counted
abbrev pub told_faults : {A : Type 0} → Result A Fault → ℕ → ℕ
told_faults (Err (Run run.Write)) n = one_more n
told_faults _ n = n
