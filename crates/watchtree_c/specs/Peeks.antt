-- What C gets where no call is made.
use Rattle.std.specs.Prelude.{◌≡◌, ◌⊎◌, ℕ, ℤ, List, length, Option, Some, None, Result, Ok, Err}
use Rattle.tree_paths.specs.declared.refusal.Refusal.{Refusal}
use Rattle.tree_paths.specs.declared.refusal.Refusal.TheVariants.{Ebadf, Enoent, Enomem}
use Rattle.tree_paths.specs.Paths.{pathname_of}
use Rattle.instance_table.specs.Ready.{ready_in}
use Rattle.tree_core.specs.declared.call.Call.{Call}
use Rattle.tree_core.specs.declared.reply.Reply.{Reply}
use Rattle.tree_core.specs.declared.reply.Reply.TheVariants as reply
use Rattle.tree_core.specs.Journal.{Journaled, now}
use Rattle.tree_core.specs.Peeks.{bytes_waiting_in, first_path}
use Rattle.tree_core.specs.Tree.{reply_of}
use Rattle.watchtree_c.specs.declared.opened.Opened.{Opened}
use Rattle.watchtree_c.specs.Answers.{count_number, refused_number, waiting_count, overlaid}

-- how many bytes the records take that wait in an instance, or that there is none
abbrev pub bytes_waiting_number : Option Opened → ℕ → ℤ
bytes_waiting_number (Some content) instance = waiting_count (bytes_waiting_in (now content.state) instance)
bytes_waiting_number None instance = refused_number Ebadf

-- numbers are put over the front of C's, and answered by how many they are
abbrev pub AreTold : List ℕ → ℤ → List ℕ → List ℕ → Type 0
AreTold ids number out filled = (number ≡ count_number (length ids)) × (filled ≡ overlaid ids out)

-- the numbers of the instances that have a record waiting
abbrev pub IsReadyTold : Option Opened → ℤ → List ℕ → List ℕ → Type 0
IsReadyTold (Some content) number out filled = AreTold (ready_in (now content.state).instances) number out filled
IsReadyTold None number out filled = (number ≡ refused_number Ebadf) × (filled ≡ out)

-- the reply that a call would have on the tree that a journal stands for, or out of memory
abbrev pub MayReply : Journaled → Call → Reply → Type 0
MayReply s call r = (r ≡ reply_of (now s) call) ⊎ (r ≡ reply.Refused Enomem)

-- the same, or why there is no call to make
abbrev pub WouldReply : Journaled → Result Call Refusal → Reply → Type 0
WouldReply s (Ok call) r = MayReply s call r
WouldReply s (Err refusal) r = (r ≡ reply.Refused refusal) ⊎ (r ≡ reply.Refused Enomem)

-- the same of a tree that may not be open, which answers EBADF
abbrev pub IsPeeked : Option Opened → Result Call Refusal → Reply → Type 0
IsPeeked (Some content) call r = WouldReply content.state call r
IsPeeked None call r = r ≡ reply.Refused Ebadf

-- the pathname of a path, or that there is none
abbrev pub IsPathname : Option (List (List ℕ)) → ℤ → List ℕ → List ℕ → Type 0
IsPathname (Some path) number out filled =
    (number ≡ count_number (length (pathname_of path))) × (filled ≡ overlaid (pathname_of path) out)
IsPathname None number out filled = (number ≡ refused_number Enoent) × (filled ≡ out)

-- the pathname of the first path of the file of a number, or out of memory
abbrev pub IsPathOf : Journaled → ℕ → ℤ → List ℕ → List ℕ → Type 0
IsPathOf s file number out filled =
    IsPathname (first_path (now s).world file) number out filled
    ⊎ ((number ≡ refused_number Enomem) × (filled ≡ out))

-- the same of a tree that may not be open, which answers EBADF
abbrev pub IsPathGiven : Option Opened → ℕ → ℤ → List ℕ → List ℕ → Type 0
IsPathGiven (Some content) file number out filled = IsPathOf content.state file number out filled
IsPathGiven None file number out filled = (number ≡ refused_number Ebadf) × (filled ≡ out)
