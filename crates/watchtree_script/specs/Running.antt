-- What the functions that run a part of a script answer. No public clause cites this module.
use Rattle.std.specs.Prelude.{◌≡◌, ◌⊎◌, ⊤, ℕ, List, ◌++◌, Option, Err, IfSome}
use Rattle.std.specs.Io.KnownBytes.{Appends}
use Rattle.tree_core.specs.Journal.{Journaled}
use Rattle.watchtree_script.specs.declared.fault.RunFault.{RunFault}
use Rattle.watchtree_script.specs.declared.fault.RunFault.TheVariants as faults
use Rattle.watchtree_script.specs.declared.line.LineError.TheVariants.{Fault}
use Rattle.watchtree_script.specs.Commands.{line_of}
use Rattle.watchtree_script.specs.Script.{PrintsLine, IsTooLong}

-- why a script is not read
abbrev pub ReadTells : RunFault → Option (List ℕ) → Type 0
ReadTells (faults.Script line f) read = ⊥
ReadTells faults.TooLong read = IfSome read IsTooLong
ReadTells faults.Read read = ⊤
ReadTells faults.Write read = ⊥
ReadTells faults.Memory read = ⊤

-- what waited and the text behind it are what was written, with what waits now behind it
pub record Passes (waiting text left : List ℕ) (old new : Option (List ℕ)) : Type 0 where
  pub written : List ℕ
  pub parted : waiting ++ text ≡ written ++ left
  pub added : Appends old new written

-- a front of the bytes was written
pub record IsFrontWritten (bytes : List ℕ) (old new : Option (List ℕ)) : Type 0 where
  pub written : List ℕ
  pub more : List ℕ
  pub parted : bytes ≡ written ++ more
  pub added : Appends old new written

-- what may have been written at a failed write: a front of what waited, or of that with what the line prints
abbrev pub FailsToWrite : ℕ → Journaled → List ℕ → List ℕ → Option (List ℕ) → Option (List ℕ) → Type 0
FailsToWrite queue journal line waiting old new =
    IsFrontWritten waiting old new
    ⊎ ((printed : List ℕ) × (after : Journaled) × PrintsLine journal (line_of queue line) printed after
    × IsFrontWritten (waiting ++ printed) old new)

-- why a line is not passed on whole, with what waited to be written, and what the writer held before and after. Where
-- no write failed, all that waited was written
abbrev pub LineTells : ℕ → ℕ → Journaled → List ℕ → RunFault → List ℕ → Option (List ℕ) → Option (List ℕ) → Type 0
LineTells queue number journal line (faults.Script n f) waiting old new =
    (n ≡ number) × (line_of queue line ≡ Err (Fault f)) × Appends old new waiting
LineTells queue number journal line faults.TooLong waiting old new = ⊥
LineTells queue number journal line faults.Read waiting old new = ⊥
LineTells queue number journal line faults.Write waiting old new = FailsToWrite queue journal line waiting old new
LineTells queue number journal line faults.Memory waiting old new = Appends old new waiting

-- a fault of a run whose script was read
abbrev pub IsRunFault : RunFault → Type 0
IsRunFault (faults.Script line f) = ⊤
IsRunFault faults.TooLong = ⊥
IsRunFault faults.Read = ⊥
IsRunFault faults.Write = ⊤
IsRunFault faults.Memory = ⊤
