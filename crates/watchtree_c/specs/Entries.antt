-- What C gets of the journal.
use Rattle.std.specs.Prelude.{◌≡◌, ◌+◌, ◌⊎◌, ℕ, ℤ, List, length, Option, Some, None}
use Rattle.tree_paths.specs.declared.refusal.Refusal.TheVariants.{Ebadf, Enoent, Enomem}
use Rattle.tree_core.specs.declared.reply.Entry.{Entry}
use Rattle.tree_core.specs.Journal.{entry_at, last_place}
use Rattle.watchtree_script.specs.CallLines.{IsEntryText}
use Rattle.watchtree_c.specs.declared.opened.Opened.{Opened}
use Rattle.watchtree_c.specs.Answers.{count_number, refused_number, overlaid}

-- the sequence number of the first entry since the cut, or of the next call where there is none
abbrev pub first_place_number : Option Opened → ℤ
first_place_number (Some content) = count_number (content.state.place + 1)
first_place_number None = refused_number Ebadf

-- the sequence number of the last call
abbrev pub last_place_number : Option Opened → ℤ
last_place_number (Some content) = count_number (last_place content.state)
last_place_number None = refused_number Ebadf

-- the text of an entry, or that there is none; or out of memory
abbrev pub IsEntryTold : Option Entry → ℤ → List ℕ → List ℕ → Type 0
IsEntryTold (Some entry) number out filled =
    ((text : List ℕ) × IsEntryText entry text × (number ≡ count_number (length text)) × (filled ≡ overlaid text out))
    ⊎ ((number ≡ refused_number Enomem) × (filled ≡ out))
IsEntryTold None number out filled = (number ≡ refused_number Enoent) × (filled ≡ out)

-- the entry with a sequence number, of a tree that may not be open, which answers EBADF
abbrev pub IsEntryGiven : Option Opened → ℕ → ℤ → List ℕ → List ℕ → Type 0
IsEntryGiven (Some content) place number out filled = IsEntryTold (entry_at content.state place) number out filled
IsEntryGiven None place number out filled = (number ≡ refused_number Ebadf) × (filled ≡ out)
