-- Calls that joined the journal, and their replies there.
use Rattle.std.proofs.Common.{◌≡◌, ℕ, Option, Some, Result, Ok, refl, sym, subst, inl}
use Rattle.tree_paths.specs.declared.refusal.Refusal.{Refusal}
use Rattle.tree_core.specs.declared.call.Call.{Call}
use Rattle.tree_core.specs.declared.reply.Reply.{Reply}
use Rattle.tree_core.specs.Applied.{Applies, receipt_of}
use Rattle.tree_core.specs.Journal.{Journaled, now}
use Rattle.tree_core.specs.Tree.{reply_of}
use Rattle.watchtree_script.specs.Script.{caller}
use Rattle.watchtree_script.proofs.Recorded.{recorded-answers, recorded-last}
use Rattle.watchtree_c.specs.declared.opened.Opened.{Opened}
use Rattle.watchtree_c.specs.Answers.{IsMade, IsReplied}
use Rattle.watchtree_c.specs.Recorded.{IsRecorded, IsTaken}

-- the entry of a call that joined the journal
pub recorded : (old new : Journaled) (call : Call) (place : ℕ) → Applies (receipt_of old call) old caller call (Ok place) new
    → IsRecorded old (Ok call) new
recorded old new call place h = (
  record { caller = caller; call = call; reply = reply_of (now old) call },
  recorded-last old new call place h,
  inl (inl (recorded-answers old new call place h)),
)

module _ (old : Option Opened) (content : Opened) (call : Result Call Refusal) (is : old ≡ Some content) where
  -- a call of an open tree
  pub made : (new : Journaled) (after : Option Opened) (r : Reply) → IsReplied content.state call r new → after ≡ Some (record content { state = new })
      → IsMade old call after r
  made new after r replied left = subst (λ (o : Option Opened). IsMade o call after r) (sym is) (new, replied, left)

  -- what is taken out with its entry
  pub taken : (new : Journaled) → IsRecorded content.state call new → IsTaken old call (record content { state = new })
  taken new h = (h.0, h.1, made new (Some (record content { state = new })) h.0.reply h.2 refl)
