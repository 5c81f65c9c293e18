-- What an answer below zero means, in words, and the version of the library.
use Rattle.std.specs.Prelude.{◌≡◌, ◌≢◌, ℤ, pos, neg_ℤ, ℕ, List, ◌++◌, length, codes, Option, Some, None}
use Rattle.tree_paths.specs.declared.refusal.Refusal.{Refusal}
use Rattle.tree_paths.specs.declared.refusal.Refusal.TheVariants.{Eperm, Enoent, Ebadf, Eagain, Enomem, Ebusy, Eexist}
use Rattle.tree_paths.specs.declared.refusal.Refusal.TheVariants.{Enotdir, Eisdir, Einval, Emfile, Efbig, Enospc}
use Rattle.tree_paths.specs.declared.refusal.Refusal.TheVariants.{Emlink, Enametoolong, Enotempty, JournalFull}
use Rattle.tree_paths.specs.declared.refusal.Refusal.TheVariants.{PipeFull, Piped, CookiesSpent, NotPiped, SeatsSpent}
use Rattle.tree_paths.specs.declared.refusal.Refusal.TheVariants.{NumbersSpent}
use Rattle.tree_paths.specs.Refusals.{refusal_name}
use Rattle.watchtree_script.specs.declared.fault.ScriptFault.{ScriptFault}
use Rattle.watchtree_script.specs.declared.fault.ScriptFault.TheVariants.{BadByte, UnknownCommand, WrongNumber}
use Rattle.watchtree_script.specs.declared.fault.ScriptFault.TheVariants.{BadEscape, BadMode, BadHex, BadMask}
use Rattle.watchtree_script.specs.declared.fault.ScriptFault.TheVariants.{BadNumber}
use Rattle.watchtree_c.specs.Answers.{count_number, refused_number, overlaid}
use Rattle.watchtree_c.specs.Lines.{fault_number}

-- the version: its one home is the file VERSION, and a test compares it with this
abbrev pub version : List ℕ
version = codes "1.0.0"

-- the words of strerror(3) for an errno, and words of this library's own
abbrev pub refusal_words : Refusal → List ℕ
refusal_words Eperm = codes "Operation not permitted"
refusal_words Enoent = codes "No such file or directory"
refusal_words Ebadf = codes "Bad file descriptor"
refusal_words Eagain = codes "Resource temporarily unavailable"
refusal_words Enomem = codes "Cannot allocate memory"
refusal_words Ebusy = codes "Device or resource busy"
refusal_words Eexist = codes "File exists"
refusal_words Enotdir = codes "Not a directory"
refusal_words Eisdir = codes "Is a directory"
refusal_words Einval = codes "Invalid argument"
refusal_words Emfile = codes "Too many open files"
refusal_words Efbig = codes "File too large"
refusal_words Enospc = codes "No space left on device"
refusal_words Emlink = codes "Too many links"
refusal_words Enametoolong = codes "File name too long"
refusal_words Enotempty = codes "Directory not empty"
refusal_words JournalFull = codes "The journal is full"
refusal_words PipeFull = codes "The pipe is full"
refusal_words Piped = codes "The instance has a pipe"
refusal_words CookiesSpent = codes "Each cookie of a rename was given"
refusal_words NotPiped = codes "The instance has no pipe"
refusal_words SeatsSpent = codes "Each seat was given"
refusal_words NumbersSpent = codes "Each number of a file was given"

-- the name of a refusal, and its words
abbrev pub refusal_text : Refusal → List ℕ
refusal_text refusal = refusal_name refusal ++ codes ": " ++ refusal_words refusal

-- the name of a fault of a line, and what is wrong with the line
abbrev pub fault_text : ScriptFault → List ℕ
fault_text BadByte = codes "BadByte: A byte is neither a space nor from ! to ~"
fault_text UnknownCommand = codes "UnknownCommand: The first word is no command"
fault_text WrongNumber = codes "WrongNumber: The command takes another number of words"
fault_text BadEscape = codes "BadEscape: A % is not followed by two hexadecimal digits"
fault_text BadMode = codes "BadMode: A mode is not 1 to 6 octal digits"
fault_text BadHex = codes "BadHex: Bytes are not an even number of hexadecimal digits"
fault_text BadMask = codes "BadMask: A mask is not 0x and 1 to 8 hexadecimal digits"
fault_text BadNumber = codes "BadNumber: A number is not 1 to 20 decimal digits, or is too large"

-- the number of a fault, below zero
abbrev pub faulted_number : ScriptFault → ℤ
faulted_number fault = neg_ℤ (pos (fault_number fault))

-- the text of a number: that of the refusal or the fault whose number it is, if there is one
pub record IsTextOf (number : ℤ) (text : Option (List ℕ)) : Type 0 where
  pub refusal : (r : Refusal) → number ≡ refused_number r → text ≡ Some (refusal_text r)
  pub fault : (f : ScriptFault) → number ≡ faulted_number f → text ≡ Some (fault_text f)
  pub other : ((r : Refusal) → number ≢ refused_number r) → ((f : ScriptFault) → number ≢ faulted_number f)
      → text ≡ None

-- a text is put over the front of C's bytes, and answered by its number of bytes. Where there is none, that is an
-- EINVAL
abbrev pub IsTextGiven : Option (List ℕ) → ℤ → List ℕ → List ℕ → Type 0
IsTextGiven (Some text) answer out filled = (answer ≡ count_number (length text)) × (filled ≡ overlaid text out)
IsTextGiven None answer out filled = (answer ≡ refused_number Einval) × (filled ≡ out)

-- a number is answered by the text of it
pub record Explains (number answer : ℤ) (out filled : List ℕ) : Type 0 where
  pub text : Option (List ℕ)
  pub is_of : IsTextOf number text
  pub given : IsTextGiven text answer out filled
