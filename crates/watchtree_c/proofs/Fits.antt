-- The bytes of a read are as many as it asks for, at most.
use Rattle.std.proofs.Common.{◌≡◌, inl, inr, ℕ, ◌≤◌, List, take, Option, Some, None, sym, subst, arith}
use Rattle.std.proofs.lemmas.List.{length-take}
use Rattle.std.specs.Prelude.{ℤ, length, Result, Ok, Err}
use Rattle.tree_paths.specs.declared.refusal.Refusal.{Refusal}
use Rattle.tree_paths.specs.declared.refusal.Refusal.TheVariants.{Enomem}
use Rattle.tree_paths.specs.Paths.{parsed}
use Rattle.instance_table.specs.declared.instance.Instance.{Instance}
use Rattle.instance_table.specs.Instances.{instance_of}
use Rattle.event_queue.proofs.ReadLemmas.{fitting_is_greatest}
use Rattle.tree_ops.specs.declared.call.FileCall.TheVariants as file
use Rattle.tree_ops.specs.declared.answer.Answer.TheVariants as answer
use Rattle.tree_core.specs.declared.call.Call.{Call}
use Rattle.tree_core.specs.declared.call.Call.TheVariants as call
use Rattle.tree_core.specs.declared.reply.Reply.{Reply}
use Rattle.tree_core.specs.declared.reply.Reply.TheVariants as reply
use Rattle.tree_core.specs.Tree.{Tree, refusal_of, reply_of}
use Rattle.tree_core.specs.Journal.{Journaled, now}
use Rattle.tree_core.proofs.Parts.{read_answer, reply_by}
use Rattle.watchtree_c.specs.declared.opened.Opened.{Opened}
use Rattle.watchtree_c.specs.Answers.{Fits, IsFilled, IsReplied, IsMade, IsReply, AnswersBytes, reply_number}
use Rattle.watchtree_c.specs.Calls.{asked_bytes, on_path, read_call}

read_by : (n : ℕ) (r : Option Refusal) (i : Option Instance) → Fits (reply_by r (read_answer n i)) n
read_by n (Some r) i = omega arith
read_by n None None = omega arith
read_by n None (Some i) = (fitting_is_greatest n i.queue.waiting).fits

pub read_fits : (t : Tree) (id n : ℕ) → Fits (reply_of t (call.Read id n)) n
read_fits t id n = read_by n (refusal_of t (call.Read id n)) (instance_of t.instances id)

bytes_by : (n : ℕ) (bytes : List ℕ) (r : Option Refusal) → Fits (reply_by r (reply.File (answer.Bytes (take n bytes)))) n
bytes_by n bytes (Some r) = omega arith
bytes_by n bytes None = let l = length-take n bytes in omega (arith, l)

pub file_fits : (t : Tree) (p : List (List ℕ)) (offset n : ℕ) → Fits (reply_of t (call.File (file.ReadFile p offset n))) n
file_fits t p offset n = bytes_by n _ (refusal_of t (call.File (file.ReadFile p offset n)))

-- what fits a buffer fits a longer one
pub more_room : (r : Reply) (n m : ℕ) → n ≤ m → Fits r n → Fits r m
more_room r n m l f = omega (arith, l, f)

-- the replies to a call, if there is one to make, fit
abbrev pub AllFit : ℕ → Result Call Refusal → Type 0
AllFit n (Ok c) = (t : Tree) → Fits (reply_of t c) n
AllFit n (Err refusal) = (t : Tree) → Fits (reply.Refused refusal) n

replied_fits : (n : ℕ) (old : Journaled) (c : Result Call Refusal) (r : Reply) (new : Journaled) → AllFit n c → IsReplied old c r new → Fits r n
replied_fits n old (Ok c) r new f (inl (inl a)) = subst (λ (x : Reply). Fits x n) (sym a.answer) (f (now old))
replied_fits n old (Ok c) r new f (inl (inr a)) = subst (λ (x : Reply). Fits x n) (sym a.answer) (omega arith)
replied_fits n old (Ok c) r new f (inr a) = subst (λ (x : Reply). Fits x n) (sym a.answer) (omega arith)
replied_fits n old (Err refusal) r new f is = subst (λ (x : Reply). Fits x n) (sym is.0) (omega arith)

pub made_fits : (n : ℕ) (old : Option Opened) (c : Result Call Refusal) (r : Reply) (new : Option Opened) → AllFit n c → IsMade old c new r → Fits r n
made_fits n (Some old) c r new f is = replied_fits n old.state c r is.0 f is.1
made_fits n None c r new f is = subst (λ (x : Reply). Fits x n) (sym is.0) (omega arith)

pub reply_fits : (n : ℕ) (old : Option Opened) (c : Result Call Refusal) (r : Reply) (new : Option Opened) → AllFit n c → IsReply old c new r → Fits r n
reply_fits n old c r new f (inl is) = made_fits n old c r new f is
reply_fits n old c r new f (inr is) = made_fits n old (Err Enomem) r new (λ t. omega arith) is

pub read_call_fits : (text : List ℕ) (offset n : ℕ) → AllFit n (read_call text offset n)
read_call_fits text offset n = by (parsed text) where
  by : (o : Result (List (List ℕ)) Refusal) → AllFit n (on_path (λ p. call.File (file.ReadFile p offset n)) o)
  by (Ok p) = λ t. file_fits t p offset n
  by (Err refusal) = λ t. omega arith

pub asked_within : (out : List ℕ) → asked_bytes out ≤ length out
asked_within out = omega arith

-- what is answered to a call whose replies fit into as many bytes as C gives
pub answers_bytes : (old : Option Opened) (c : Result Call Refusal) (new : Option Opened) (number : ℤ) (out filled : List ℕ) (r : Reply)
    → AllFit (asked_bytes out) c → IsMade old c new r → number ≡ reply_number r → IsFilled r out filled → AnswersBytes (IsMade old c new) number out filled
answers_bytes old c new number out filled r f made is_number is_filled = record {
  r = r;
  made = made;
  is_number = is_number;
  is_filled = is_filled;
  fits = more_room r (asked_bytes out) (length out) (asked_within out) (made_fits (asked_bytes out) old c r new f made);
}

-- the same, where there may be no memory to read what C asks for
pub replies_bytes : (old : Option Opened) (c : Result Call Refusal) (new : Option Opened) (number : ℤ) (out filled : List ℕ) (r : Reply)
    → AllFit (asked_bytes out) c → IsReply old c new r → number ≡ reply_number r → IsFilled r out filled → AnswersBytes (IsReply old c new) number out filled
replies_bytes old c new number out filled r f made is_number is_filled = record {
  r = r;
  made = made;
  is_number = is_number;
  is_filled = is_filled;
  fits = more_room r (asked_bytes out) (length out) (asked_within out) (reply_fits (asked_bytes out) old c r new f made);
}
