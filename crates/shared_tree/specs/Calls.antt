-- What contracts see of a tree behind a lock, and what a call by a seat does to it.
use Rattle.std.specs.Prelude.{◌≡◌, ◌+◌, ◌^◌, ◌||◌, ℕ, nat_le, Bool, true, false, List, [], ◌∷◌, ◌++◌, Option, Some}
use Rattle.std.specs.Prelude.{None, IsTrue, length, map}
use Rattle.tree_paths.specs.Rows.{first_row, row}
use Rattle.tree_paths.specs.declared.refusal.Refusal.{Refusal}
use Rattle.tree_paths.specs.declared.refusal.Refusal.TheVariants.{Enomem, JournalFull, PipeFull}
use Rattle.instance_table.specs.declared.instance.Instance.{Instance}
use Rattle.instance_table.specs.Instances.{instance_of}
use Rattle.tree_core.specs.declared.call.Call.{Call}
use Rattle.tree_core.specs.declared.call.Call.TheVariants as call
use Rattle.tree_core.specs.declared.reply.Receipt.{Receipt}
use Rattle.tree_core.specs.Tree.{Tree, reply_of}
use Rattle.tree_core.specs.declared.reply.Entry.{Entry}
use Rattle.tree_core.specs.Journal.{Journaled, IsPast, last_place, now, with_entry}
use Rattle.shared_tree.specs.declared.pipe.Batch.{Batch}
use Rattle.shared_tree.specs.Seats.{Seated, seated}
use Rattle.shared_tree.specs.Handed.{handed, handed_by, piped_by, piped_of, deliver}

-- the tree with its journal, the instances that were made with a pipe, what each pipe was sent in the order in which
-- the pipes were made, and the ledger's total
pub record TreeWithPipes : Type 0 where
  pub state : Journaled
  pub pipes : List ℕ
  pub sent : List (List Batch)
  pub total : ℕ

abbrev pub tree_with_pipes : Journaled → List ℕ → List (List Batch) → ℕ → TreeWithPipes
tree_with_pipes state pipes sent total = record { state = state; pipes = pipes; sent = sent; total = total }

-- the pipes are those of the instances that the whole journal made with one, and each was sent what it hands to its
-- instance. The whole journal is what was cut off, and the entries since
pub record IsSent (state : Journaled) (pipes : List ℕ) (sent : List (List Batch)) : Type 0 where
  pub past : List Entry
  pub is_past : IsPast state.start state.place past
  pub pipes_are : pipes ≡ piped_of (past ++ state.entries)
  pub sent_are : sent ≡ map (handed state.start.limits (past ++ state.entries)) (piped_of (past ++ state.entries))

-- what a call does beside its entry: an instance with a pipe that it made has a pipe more, which was sent nothing; the
-- batch that it hands over joins what the pipe of its instance was sent; and the ledger's total is one more
pub record HandsOver (old : TreeWithPipes) (c : Call) (r : Receipt) (new : TreeWithPipes) : Type 0 where
  pub pipes_are : new.pipes ≡ old.pipes ++ piped_by c r.reply
  pub sent_are : new.sent
      ≡ deliver (handed_by (now old.state) r.place c) old.pipes old.sent ++ map (λ id. []) (piped_by c r.reply)
  pub counted : new.total ≡ old.total + 1

-- a call by a seat is one entry more, under the seat's number and with the reply of the tree before it. The seat keeps
-- this one call more
pub record JoinsJournal (old : Journaled) (seat : Seated) (c : Call) (new : Journaled) (left : Seated)
    (r : Receipt) : Type 0 where
  pub entry : new ≡ with_entry old (record { caller = seat.number; call = c; reply = r.reply })
  pub reply : r.reply ≡ reply_of (now old) c
  pub place : r.place ≡ last_place new
  pub kept : left ≡ seated seat.number (seat.kept ++ record { place = r.place; call = c; reply = r.reply } ∷ [])

abbrev pub HasPipe : Option Instance → Type 0
HasPipe None = ⊥
HasPipe (Some i) = IsTrue i.is_piped

-- the call hands something to the pipe of an open instance: it is a pump or a close of one that has a pipe
abbrev pub IsForPipe : Tree → Call → Type 0
IsForPipe t (call.Pump id bytes) = HasPipe (instance_of t.instances id)
IsForPipe t (call.Close id) = HasPipe (instance_of t.instances id)
IsForPipe t _ = ⊥

-- whether no entry more is taken, as IsSpent
abbrev pub is_spent : Journaled → Bool
is_spent s = nat_le s.start.limits.journal (length s.entries) || nat_le (2 ^ 64) (last_place s + 1)

-- why a call is not carried out: it reports a full pipe, the journal is full, or it is out of memory. No contract knows
-- whether a pipe is full, since its feed may free a slot at any time
abbrev pub unable_rows : Bool → Journaled → List (Option Refusal)
unable_rows says_full old = row says_full PipeFull ∷ row (is_spent old) JournalFull ∷ Some Enomem ∷ []

-- a call for which no pipe is looked for
abbrev pub IsOutOfSpace : Journaled → Refusal → Type 0
IsOutOfSpace old e = first_row (unable_rows false old) ≡ Some e

-- a call for which one may be: what is said to be full is the pipe of an open instance, which is pumped or closed
pub record RefusalOf (old : Journaled) (c : Call) (e : Refusal) : Type 0 where
  pub says_full : Bool
  pub for_pipe : says_full ≡ true → IsForPipe (now old) c
  pub first : first_row (unable_rows says_full old) ≡ Some e

-- what contracts see of a journal that has ended: the state, the sequence number of its last entry, the numbers of its
-- pipes, and what each was sent
pub record BookContents : Type 0 where
  pub state : Journaled
  pub entries : ℕ
  pub pipes : List ℕ
  pub sent : List (List Batch)
