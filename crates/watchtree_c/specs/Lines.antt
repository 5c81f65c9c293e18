-- What a line of a script comes to.
use Rattle.std.specs.Prelude.{◌≡◌, ◌⊎◌, ℕ, ℤ, pos, neg_ℤ, List, [], length, Option, Some, None, Err}
use Rattle.tree_paths.specs.declared.refusal.Refusal.TheVariants.{Ebadf, Enomem}
use Rattle.watchtree_script.specs.declared.fault.ScriptFault.{ScriptFault}
use Rattle.watchtree_script.specs.declared.fault.ScriptFault.TheVariants as script
use Rattle.watchtree_script.specs.declared.fault.RunFault.{RunFault}
use Rattle.watchtree_script.specs.declared.fault.RunFault.TheVariants as faults
use Rattle.watchtree_script.specs.declared.line.LineError.TheVariants.{Fault}
use Rattle.watchtree_script.specs.Commands.{line_of}
use Rattle.watchtree_script.specs.Script.{PrintsLine, MayHaveRun}
use Rattle.watchtree_c.specs.declared.opened.Opened.{Opened}
use Rattle.watchtree_c.specs.Answers.{count_number, refused_number, overlaid}

abbrev pub fault_number : ScriptFault → ℕ
fault_number script.BadByte = 1101
fault_number script.UnknownCommand = 1102
fault_number script.WrongNumber = 1103
fault_number script.BadEscape = 1104
fault_number script.BadMode = 1105
fault_number script.BadHex = 1106
fault_number script.BadMask = 1107
fault_number script.BadNumber = 1108

-- the number of what ended a line, each want of which is one of memory where the line has no fault
abbrev pub run_number : RunFault → ℤ
run_number (faults.Script line fault) = neg_ℤ (pos (fault_number fault))
run_number faults.TooLong = refused_number Enomem
run_number faults.Read = refused_number Enomem
run_number faults.Write = refused_number Enomem
run_number faults.Memory = refused_number Enomem

-- the line's text is kept, and by its number of bytes put over the front of C's
pub record IsPrinted (queue : ℕ) (line : List ℕ) (old : Opened) (number : ℤ) (new : Opened)
    (out filled : List ℕ) : Type 0 where
  pub prints : PrintsLine old.state (line_of queue line) new.text.items new.state
  pub is_number : number ≡ count_number (length new.text.items)
  pub is_filled : filled ≡ overlaid new.text.items out

-- the line has a fault, and nothing was done
pub record IsFault (queue : ℕ) (line : List ℕ) (old : Opened) (number : ℤ) (new : Opened)
    (out filled : List ℕ) : Type 0 where
  pub fault : ScriptFault
  pub is_fault : line_of queue line ≡ Err (Fault fault)
  pub same : new.state ≡ old.state
  pub no_text : new.text.items ≡ []
  pub is_number : number ≡ neg_ℤ (pos (fault_number fault))
  pub is_filled : filled ≡ out

-- there was no memory for the line or its text: nothing was done, or all that the line asks for
pub record IsLost (queue : ℕ) (line : List ℕ) (old : Opened) (number : ℤ) (new : Opened)
    (out filled : List ℕ) : Type 0 where
  pub left : MayHaveRun old.state (line_of queue line) new.state
  pub no_text : new.text.items ≡ []
  pub is_number : number ≡ refused_number Enomem
  pub is_filled : filled ≡ out

-- what a line comes to on an open tree
abbrev pub RunsOn : ℕ → List ℕ → Opened → ℤ → Opened → List ℕ → List ℕ → Type 0
RunsOn queue line old number new out filled =
    IsPrinted queue line old number new out filled ⊎ IsFault queue line old number new out filled
    ⊎ IsLost queue line old number new out filled

-- the same of a tree that may not be open
abbrev pub Runs : ℕ → List ℕ → Option Opened → ℤ → Option Opened → List ℕ → List ℕ → Type 0
Runs queue line (Some old) number new out filled =
    (after : Opened) × RunsOn queue line old number after out filled × (new ≡ Some after)
Runs queue line None number new out filled = (number ≡ refused_number Ebadf) × (new ≡ None) × (filled ≡ out)

-- the text of the last line, by its number of bytes, is put over the front of C's
abbrev pub IsTextTold : Option Opened → ℤ → List ℕ → List ℕ → Type 0
IsTextTold (Some content) number out filled =
    (number ≡ count_number (length content.text.items)) × (filled ≡ overlaid content.text.items out)
IsTextTold None number out filled = (number ≡ refused_number Ebadf) × (filled ≡ out)
