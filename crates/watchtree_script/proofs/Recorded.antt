-- Calls that are recorded: their entries, and what they are replied.
use Rattle.std.proofs.Common.{◌≡◌, ◌⊎◌, ℕ, List, [], ◌∷◌, ◌++◌, Option, Some, None, Result, Ok, Err, inl, inr, refl, ap, ◌∙◌}
use Rattle.std.specs.Prelude.{OnOk}
use Rattle.std.specs.List.{last_or}
use Rattle.tree_paths.specs.declared.refusal.Refusal.{Refusal}
use Rattle.tree_paths.specs.declared.refusal.Refusal.TheVariants.{Enomem, JournalFull}
use Rattle.tree_core.specs.declared.call.Call.{Call}
use Rattle.tree_core.specs.declared.reply.Reply.TheVariants as replies
use Rattle.tree_core.specs.Applied.{Applies, receipt_of}
use Rattle.tree_core.specs.Journal.{Journaled, now}
use Rattle.tree_core.specs.Tree.{reply_of}
use Rattle.watchtree_script.specs.Script.{IsAnswered, Replies, caller}

pub on_ok-map : {X E A B : Type 0} (r : Result X E) → (A → B) → OnOk r A → OnOk r B
on_ok-map (Ok x) f h = f h
on_ok-map (Err e) f h = tt

last-more : {A : Type 0} (o : Option A) (xs : List A) (x : A) → last_or o (xs ++ x ∷ []) ≡ Some x
last-more o [] x = refl
last-more o (y ∷ ys) x = last-more (Some y) ys x

module _ (old new : Journaled) (call : Call) where
  -- the entry of a call that joined the journal
  pub recorded-last : (place : ℕ) → Applies (receipt_of old call) old caller call (Ok place) new
      → last_or None new.entries ≡ Some (record { caller = caller; call = call; reply = reply_of (now old) call })
  recorded-last place h =
      ap (λ (s : Journaled). last_or None s.entries) h.entry
      ∙ last-more None old.entries (record { caller = caller; call = call; reply = reply_of (now old) call })

  pub recorded-answers : (place : ℕ) → Applies (receipt_of old call) old caller call (Ok place) new → IsAnswered old call (reply_of (now old) call) new
  recorded-answers place h = record { room = λ spent. let full = h.full.1 spent in absurd (cc); answer = refl; entry = h.entry }

  -- a call that did not join the journal
  pub unrecorded-replies : (r : Refusal) → Applies (receipt_of old call) old caller call (Err r) new → Replies old call (replies.Refused r) new
  unrecorded-replies r h = by h.errors
    where
      by : (r ≡ JournalFull) ⊎ (r ≡ Enomem) → Replies old call (replies.Refused r) new
      by (inl full) = inl (inr (record { full = h.full.0 (ap Err full); answer = ap replies.Refused full; same = h.err }))
      by (inr memory) = inr (record { room = λ spent. let full = h.full.1 spent in absurd (cc); answer = ap replies.Refused memory; same = h.err })
