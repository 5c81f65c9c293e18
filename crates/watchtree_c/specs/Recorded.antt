-- Calls that joined the journal, and their replies there. No public clause cites this module.
use Rattle.std.specs.Prelude.{◌≡◌, ℤ, ℕ, List, Option, Some, None, IfSome, Result}
use Rattle.std.specs.List.{last_or}
use Rattle.tree_paths.specs.declared.refusal.Refusal.{Refusal}
use Rattle.tree_core.specs.declared.call.Call.{Call}
use Rattle.tree_core.specs.declared.reply.Entry.{Entry}
use Rattle.tree_core.specs.declared.reply.Reply.{Reply}
use Rattle.tree_core.specs.Journal.{Journaled}
use Rattle.watchtree_c.specs.declared.opened.Opened.{Opened}
use Rattle.watchtree_c.specs.Answers.{IsFilled, IsMade, IsReplied, reply_number}

-- the last entry of a journal, if any, has this reply
abbrev pub IsLastReply : Journaled → Reply → Type 0
IsLastReply s r = IfSome (last_or None s.entries) (λ entry. r ≡ entry.reply)

-- a call leads from the old journal to the new one, whose last entry has the reply
abbrev pub IsRecorded : Journaled → Result Call Refusal → Journaled → Type 0
IsRecorded old call new =
    (entry : Entry) × (last_or None new.entries ≡ Some entry) × IsReplied old call entry.reply new

-- a call leads from the old tree to this one, whose journal's last entry has the reply
abbrev pub IsTaken : Option Opened → Result Call Refusal → Opened → Type 0
IsTaken old call taken =
    (entry : Entry) × (last_or None taken.state.entries ≡ Some entry) × IsMade old call (Some taken) entry.reply

-- what C asks for is answered by the number of such a reply, and by its bytes, as many as fit
pub record Fills (M : Reply → Type 0) (number : ℤ) (out filled : List ℕ) : Type 0 where
  pub r : Reply
  pub made : M r
  pub is_number : number ≡ reply_number r
  pub is_filled : IsFilled r out filled
