-- Calls that are not made, on what C asks for.
use Rattle.std.proofs.Common.{◌≡◌, ℕ, List, Option, Some, None, refl, sym, ap, ◌∙◌, subst, inl, inr, length, arith}
use Rattle.std.specs.Prelude.{◌⊎◌, ℤ, Result, Ok, Err}
use Rattle.tree_paths.specs.declared.refusal.Refusal.{Refusal}
use Rattle.tree_paths.specs.declared.refusal.Refusal.TheVariants.{Ebadf, Enomem}
use Rattle.tree_paths.specs.Paths.{parsed}
use Rattle.tree_ops.specs.declared.call.FileCall.TheVariants as file
use Rattle.tree_ops.specs.declared.answer.Answer.TheVariants as answer
use Rattle.tree_core.specs.declared.call.Call.{Call}
use Rattle.tree_core.specs.declared.call.Call.TheVariants as call
use Rattle.tree_core.specs.declared.reply.Reply.{Reply}
use Rattle.tree_core.specs.declared.reply.Reply.TheVariants as reply
use Rattle.tree_core.specs.Journal.{Journaled, now}
use Rattle.tree_core.specs.Tree.{reply_of}
use Rattle.watchtree_c.specs.declared.opened.Opened.{Opened}
use Rattle.watchtree_c.specs.declared.files.Stat.{Stat}
use Rattle.watchtree_c.specs.Answers.{AnswersBytes, Fits, count_number, overlaid, refused_number, reply_number}
use Rattle.watchtree_c.specs.Calls.{asked_bytes, on_path}
use Rattle.watchtree_c.specs.Listings.{Lists}
use Rattle.watchtree_c.specs.Peeks.{IsPeeked, MayReply, WouldReply}
use Rattle.watchtree_c.specs.Stats.{Tells, stat_of, told_or}
use Rattle.watchtree_c.proofs.Fits.{asked_within, file_fits, more_room}
use Rattle.watchtree_c.proofs.Listing.{overlaid_none}

-- there is no call to make
pub unasked : (s : Journaled) (f : List (List ℕ) → Call) (text : List ℕ) (e : Refusal) → (e ≡ Enomem) ⊎ (parsed text ≡ Err e)
    → WouldReply s (on_path f (parsed text)) (reply.Refused e)
unasked s f text e (inr is) = subst (λ o. WouldReply s (on_path f o) (reply.Refused e)) (sym is) (inl refl)
unasked s f text e (inl is) = by (parsed text)
  where
    by : (o : Result (List (List ℕ)) Refusal) → WouldReply s (on_path f o) (reply.Refused e)
    by (Ok p) = inr (ap (λ x. reply.Refused x) is)
    by (Err r) = inr (ap (λ x. reply.Refused x) is)

-- the call is on the path of the text
pub asked : (s : Journaled) (f : List (List ℕ) → Call) (text : List ℕ) (p : List (List ℕ)) (r : Reply) → parsed text ≡ Ok p
    → MayReply s (f p) r → WouldReply s (on_path f (parsed text)) r
asked s f text p r is may = subst (λ o. WouldReply s (on_path f o) r) (sym is) may

-- a refusal of the call, or out of memory
pub refused-may : (s : Journaled) (c : Call) (e : Refusal) → (reply_of (now s) c ≡ reply.Refused e) ⊎ (e ≡ Enomem) → MayReply s c (reply.Refused e)
refused-may s c e (inl is) = inl (sym is)
refused-may s c e (inr is) = inr (ap (λ x. reply.Refused x) is)

-- what is answered by such a reply
pub lists-by : (M N : Reply → Type 0) (number : ℤ) (out filled : List ℕ) → ((r : Reply) → M r → N r) → Lists M number out filled → Lists N number out filled
lists-by M N number out filled f a = record { r = a.r; made = f a.r a.made; is_listed = a.is_listed }

-- the same, under a number that is equal
pub lists-of : (M N : Reply → Type 0) (number told : ℤ) (out filled : List ℕ) → told ≡ number → ((r : Reply) → M r → N r)
    → Lists M number out filled → Lists N told out filled
lists-of M N number told out filled is f a = subst (λ (n : ℤ). Lists N n out filled) (sym is) (lists-by M N number out filled f a)

pub bytes-by : (M N : Reply → Type 0) (number : ℤ) (out filled : List ℕ) → ((r : Reply) → M r → N r)
    → AnswersBytes M number out filled → AnswersBytes N number out filled
bytes-by M N number out filled f a = record { r = a.r; made = f a.r a.made; is_number = a.is_number; is_filled = a.is_filled; fits = a.fits }

pub bytes-of : (M N : Reply → Type 0) (number told : ℤ) (out filled : List ℕ) → told ≡ number → ((r : Reply) → M r → N r)
    → AnswersBytes M number out filled → AnswersBytes N told out filled
bytes-of M N number told out filled is f a = subst (λ (n : ℤ). AnswersBytes N n out filled) (sym is) (bytes-by M N number out filled f a)

-- a tree that is not open
pub closed-peeked : (old : Option Opened) (c : Result Call Refusal) → old ≡ None → IsPeeked old c (reply.Refused Ebadf)
closed-peeked old c is = subst (λ (o : Option Opened). IsPeeked o c (reply.Refused Ebadf)) (sym is) refl

-- the bytes of a file, which are as many as are asked for at most
pub read-peeked : (s : Journaled) (p : List (List ℕ)) (offset n : ℕ) (out filled bytes : List ℕ) (number : ℤ) → n ≡ asked_bytes out
    → reply_of (now s) (call.File (file.ReadFile p offset n)) ≡ reply.File (answer.Bytes bytes)
    → number ≡ count_number (length bytes) → filled ≡ overlaid bytes out
    → AnswersBytes (MayReply s (call.File (file.ReadFile p offset (asked_bytes out)))) number out filled
read-peeked s p offset n out filled bytes number is said is_number is_filled =
    let told = subst (λ m. reply_of (now s) (call.File (file.ReadFile p offset m)) ≡ reply.File (answer.Bytes bytes)) is said in
    record {
      r = reply.File (answer.Bytes bytes);
      made = inl (sym told);
      is_number = is_number;
      is_filled = is_filled;
      fits =
          more_room (reply.File (answer.Bytes bytes)) (asked_bytes out) (length out) (asked_within out)
          (subst (λ (r : Reply). Fits r (asked_bytes out)) told (file_fits (now s) p offset (asked_bytes out)));
    }

-- why they are refused
pub read-refused : (s : Journaled) (p : List (List ℕ)) (offset n : ℕ) (out filled : List ℕ) (e : Refusal) (number : ℤ) → n ≡ asked_bytes out
    → reply_of (now s) (call.File (file.ReadFile p offset n)) ≡ reply.Refused e → number ≡ refused_number e → filled ≡ out
    → AnswersBytes (MayReply s (call.File (file.ReadFile p offset (asked_bytes out)))) number out filled
read-refused s p offset n out filled e number is said is_number is_filled =
    let told = subst (λ m. reply_of (now s) (call.File (file.ReadFile p offset m)) ≡ reply.Refused e) is said in
    record { r = reply.Refused e; made = inl (sym told); is_number = is_number; is_filled = is_filled ∙ sym (overlaid_none out); fits = omega arith }

-- the same of a tree that is open
module _ (old : Option Opened) (content : Opened) (c : Result Call Refusal) (is : old ≡ Some content) where
  pub peeked : (r : Reply) → WouldReply content.state c r → IsPeeked old c r
  peeked r would = subst (λ (o : Option Opened). IsPeeked o c r) (sym is) would

  pub tells-peeked : (r : Reply) (number : ℤ) (out told : Stat) → WouldReply content.state c r → number ≡ reply_number r
      → told ≡ told_or (stat_of r) out → Tells (IsPeeked old c) number out told
  tells-peeked r number out told would is_number is_told = record { r = r; made = peeked r would; is_number = is_number; is_told = is_told }

  pub lists-peeked : (number : ℤ) (out filled : List ℕ) → Lists (WouldReply content.state c) number out filled → Lists (IsPeeked old c) number out filled
  lists-peeked number out filled a = lists-by (WouldReply content.state c) (IsPeeked old c) number out filled peeked a

  pub bytes-peeked : (number : ℤ) (out filled : List ℕ) → AnswersBytes (WouldReply content.state c) number out filled
      → AnswersBytes (IsPeeked old c) number out filled
  bytes-peeked number out filled a = bytes-by (WouldReply content.state c) (IsPeeked old c) number out filled peeked a
