-- What a call of C answers, and what becomes of its tree.
use Rattle.std.specs.Prelude.{◌≡◌, ◌⊎◌, ◌≤◌, ℕ, ◌^◌, ◌-◌, ℤ, pos, neg_ℤ, List, ◌++◌, [], length, take, drop, min}
use Rattle.std.specs.Prelude.{Option, Some, None, Result, Ok, Err}
use Rattle.tree_paths.specs.declared.refusal.Refusal.{Refusal}
use Rattle.tree_paths.specs.declared.refusal.Refusal.TheVariants.{Ebadf, Ebusy, Enomem}
use Rattle.tree_paths.specs.Bounds.{full}
use Rattle.tree_paths.specs.Refusals.{refusal_number}
use Rattle.tree_ops.specs.declared.answer.Answer.{Answer}
use Rattle.tree_ops.specs.declared.answer.Answer.TheVariants as answer
use Rattle.tree_core.specs.declared.call.Call.{Call}
use Rattle.tree_core.specs.declared.reply.Reply.{Reply}
use Rattle.tree_core.specs.declared.reply.Reply.TheVariants as reply
use Rattle.tree_core.specs.Journal.{Journaled, now, last_place, opened, cut_off, waiting_in}
use Rattle.watchtree_script.specs.Script.{Replies}
use Rattle.watchtree_c.specs.declared.opened.Opened.{Opened}

-- ---- numbers

-- a count, no greater than an i64 may be
abbrev pub count_number : ℕ → ℤ
count_number n = pos (min n (2 ^ 63 - 1))

-- the negative of a refusal's number, as the system calls of Linux answer it
abbrev pub refused_number : Refusal → ℤ
refused_number refusal = neg_ℤ (pos (refusal_number refusal))

abbrev pub answer_number : Answer → ℤ
answer_number answer.Done = pos 0
answer_number (answer.Number number) = pos number
answer_number (answer.Count count) = count_number count
answer_number (answer.Bytes bytes) = count_number (length bytes)
answer_number (answer.Names names) = count_number (length names)
answer_number (answer.Stat number kind mode links size) = pos 0

-- the number of a reply
abbrev pub reply_number : Reply → ℤ
reply_number (reply.File a) = answer_number a
reply_number (reply.Instance id) = pos id
reply_number (reply.Wd wd) = wd
reply_number (reply.Records bytes) = count_number (length bytes)
reply_number reply.Done = pos 0
reply_number (reply.Refused refusal) = refused_number refusal

-- ---- calls

-- a call, or why there is none to make, may have this reply and lead from the old journal to the new one
abbrev pub IsReplied : Journaled → Result Call Refusal → Reply → Journaled → Type 0
IsReplied old (Ok call) r new = Replies old call r new
IsReplied old (Err refusal) r new = (r ≡ reply.Refused refusal) × (new ≡ old)

-- a call that is made of a tree may have this reply, and lead from the old tree to the new one. A tree that is not open
-- answers EBADF
abbrev pub IsMade : Option Opened → Result Call Refusal → Option Opened → Reply → Type 0
IsMade (Some old) call new r =
    (after : Journaled) × IsReplied old.state call r after × (new ≡ Some (record old { state = after }))
IsMade None call new r = (r ≡ reply.Refused Ebadf) × (new ≡ None)

-- the same, where there may be no memory to read what C asks for
abbrev pub IsReply : Option Opened → Result Call Refusal → Option Opened → Reply → Type 0
IsReply old call new r = IsMade old call new r ⊎ IsMade old (Err Enomem) new r

-- the call that is made, where there may be no memory to read what C asks for
abbrev pub IsAsked : Result Call Refusal → Result Call Refusal → Type 0
IsAsked made call = (made ≡ call) ⊎ (made ≡ Err Enomem)

-- what C asks for is answered by the number of such a reply
pub record Answers (M : Reply → Type 0) (number : ℤ) : Type 0 where
  pub r : Reply
  pub made : M r
  pub is_number : number ≡ reply_number r

-- ---- bytes

-- bytes put over the front of others, as many as fit
abbrev pub overlaid : List ℕ → List ℕ → List ℕ
overlaid bytes old = take (length old) bytes ++ drop (length bytes) old

-- the bytes that a reply has for C, which are none where it has none
abbrev pub bytes_of : Reply → List ℕ
bytes_of (reply.Records bytes) = bytes
bytes_of (reply.File (answer.Bytes bytes)) = bytes
bytes_of _ = []

-- the bytes of a reply are put over the front of C's
abbrev pub IsFilled : Reply → List ℕ → List ℕ → Type 0
IsFilled r old new = new ≡ overlaid (bytes_of r) old

-- a reply has at most `room` bytes
abbrev pub Fits : Reply → ℕ → Type 0
Fits r room = length (bytes_of r) ≤ room

-- what C asks for is answered by the number of such a reply, and by its bytes, all of which fit
pub record AnswersBytes (M : Reply → Type 0) (number : ℤ) (out filled : List ℕ) : Type 0 where
  pub r : Reply
  pub made : M r
  pub is_number : number ≡ reply_number r
  pub is_filled : IsFilled r out filled
  pub fits : Fits r (length out)

-- ---- a tree that opens

-- the root alone, and no text
abbrev pub IsOpening : Option Opened → Type 0
IsOpening (Some content) = (content.state ≡ opened full) × (content.text.items ≡ [])
IsOpening None = ⊥

-- it opens with the root alone, or answers why not and stays as it is
abbrev pub IsOpened : Option Opened → ℤ → Option Opened → Type 0
IsOpened (Some old) number new = (number ≡ refused_number Ebusy) × (new ≡ Some old)
IsOpened None number new =
    ((number ≡ pos 0) × IsOpening new)
    ⊎ ((number ≡ refused_number Enomem) × (new ≡ None))

-- ---- a tree that is forked

-- the same tree with the same last sequence number, an empty journal, and no text
abbrev pub IsFork : Journaled → Option Opened → Type 0
IsFork s (Some fork) = (fork.state ≡ cut_off s) × (fork.text.items ≡ [])
IsFork s None = ⊥

-- it opens as a fork, or answers why not and stays as it is
abbrev pub IsOpenedAsFork : Journaled → Option Opened → ℤ → Option Opened → Type 0
IsOpenedAsFork s (Some old) number new = (number ≡ refused_number Ebusy) × (new ≡ Some old)
IsOpenedAsFork s None number new =
    ((number ≡ pos 0) × IsFork s new)
    ⊎ ((number ≡ refused_number Enomem) × (new ≡ None))

-- the same, of the fork of a tree that may not be open
abbrev pub IsForked : Option Opened → Option Opened → ℤ → Option Opened → Type 0
IsForked (Some content) old number new = IsOpenedAsFork content.state old number new
IsForked None old number new = (number ≡ refused_number Ebadf) × (new ≡ old)

-- ---- a journal that is cut

-- it is cut, and answers the sequence number of the last entry; or there is no memory for it, and all stays as it is
abbrev pub IsCutOff : Option Opened → ℤ → Option Opened → Type 0
IsCutOff (Some old) number new =
    ((number ≡ count_number (last_place old.state)) × (new ≡ Some (record old { state = cut_off old.state })))
    ⊎ ((number ≡ refused_number Enomem) × (new ≡ Some old))
IsCutOff None number new = (number ≡ refused_number Ebadf) × (new ≡ None)

-- ---- what waits

abbrev pub waiting_count : Option ℕ → ℤ
waiting_count (Some count) = count_number count
waiting_count None = refused_number Ebadf

-- how many records wait in an instance, or that there is none
abbrev pub waiting_number : Option Opened → ℕ → ℤ
waiting_number (Some content) instance = waiting_count (waiting_in (now content.state) instance)
waiting_number None instance = refused_number Ebadf
