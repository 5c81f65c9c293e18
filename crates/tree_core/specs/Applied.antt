-- Calls that are applied to a state.
use Rattle.std.specs.Prelude.{◌≡◌, ◌↔◌, ◌⊎◌, ℕ, Result, Err, IfOk, IfErr, OnErr}
use Rattle.tree_paths.specs.declared.refusal.Refusal.{Refusal}
use Rattle.tree_paths.specs.declared.refusal.Refusal.TheVariants.{Enomem, JournalFull}
use Rattle.tree_core.specs.declared.call.Call.{Call}
use Rattle.tree_core.specs.declared.reply.Receipt.{Receipt}
use Rattle.tree_core.specs.Tree.{reply_of}
use Rattle.tree_core.specs.Journal.{Journaled, IsLawfulFrom, IsSpent, last_place, now, with_entry}

-- a call makes one more entry, with the reply of the tree before it, and the receipt in the answer has the sequence
-- number of the entry and that reply; or it is refused, and the state is as before. Either way the journal is lawful.
-- It is refused as full if and only if the journal takes no more entries, and otherwise as out of memory
pub record Applies {X : Type 0} (receipt : X → Receipt) (old : Journaled) (caller : ℕ) (call : Call)
    (result : Result X Refusal) (new : Journaled) : Type 0 where
  pub entry : IfOk result (λ x.
      new ≡ with_entry old (record { caller = caller; call = call; reply = (receipt x).reply }))
  pub place : IfOk result (λ x. (receipt x).place ≡ last_place new)
  pub reply : IfOk result (λ x. (receipt x).reply ≡ reply_of (now old) call)
  pub lawful : IsLawfulFrom new.start new.entries
  pub err : OnErr result (new ≡ old)
  pub full : (result ≡ Err JournalFull) ↔ IsSpent old
  pub errors : IfErr result (λ e. (e ≡ JournalFull) ⊎ (e ≡ Enomem))

-- the receipt of an entry with this sequence number
abbrev pub receipt_of : Journaled → Call → ℕ → Receipt
receipt_of old call place = record { place = place; reply = reply_of (now old) call }
