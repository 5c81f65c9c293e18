-- What a tree answers and becomes by whether a call is refused, and file systems that carry out calls.
use Rattle.std.proofs.Common.{◌≡◌, false, Some, None, Result, Ok, Err, IsErrAnd, inl, inr, refl, sym, ap, subst, ◌∙◌}
use Rattle.std.proofs.lemmas.Bool.{false≢true}
use Rattle.std.specs.Prelude.{◌≢◌, ◌⊎◌, IfOk, IfErr}
use Rattle.tree_paths.specs.declared.refusal.Refusal.{Refusal}
use Rattle.tree_paths.specs.declared.refusal.Refusal.TheVariants.{Enomem}
use Rattle.tree_core.specs.declared.call.Call.{Call}
use Rattle.tree_core.specs.declared.file_system.Begun.{Begun}
use Rattle.tree_core.specs.declared.file_system.FileSystem.{FileSystem}
use Rattle.tree_core.specs.declared.file_system.Rest.TheVariants.{Nothing}
use Rattle.tree_core.specs.declared.reply.Reply.{Reply}
use Rattle.tree_core.specs.declared.reply.Reply.TheVariants as reply
use Rattle.tree_core.specs.Calls.{takes_memory}
use Rattle.tree_core.specs.Tree.{Tree, refusal_of, accepted_reply, accepted, reply_of, after}
use Rattle.tree_core.specs.FileSystems.{tree_in, Attempts, Begins, IsNumbered, finished}
use Rattle.tree_core.proofs.Parts.{reply_by, tree_by}

pub reply_of-refused : (t : Tree) (c : Call) (r : Refusal) → refusal_of t c ≡ Some r → reply_of t c ≡ reply.Refused r
reply_of-refused t c r e = ap (λ o. reply_by o (accepted_reply t c)) e

pub after-refused : (t : Tree) (c : Call) (r : Refusal) → refusal_of t c ≡ Some r → after t c ≡ t
after-refused t c r e = ap (λ o. tree_by o t (accepted t c)) e

pub reply_of-accepted : (t : Tree) (c : Call) → refusal_of t c ≡ None → reply_of t c ≡ accepted_reply t c
reply_of-accepted t c e = ap (λ o. reply_by o (accepted_reply t c)) e

pub after-accepted : (t : Tree) (c : Call) → refusal_of t c ≡ None → after t c ≡ accepted t c
after-accepted t c e = ap (λ o. tree_by o t (accepted t c)) e

-- ---- attempts

-- a refusal, or out of memory
pub failed-attempts : (old new : FileSystem) (c : Call) (result : Result Begun Refusal) (r : Refusal) → IsErrAnd result (λ e. e ≡ r)
    → (refusal_of (tree_in old) c ≡ Some r) ⊎ (r ≡ Enomem) → tree_in new ≡ tree_in old → Attempts old c result new
failed-attempts old new c (Ok b) r is why same = absurd is
failed-attempts old new c (Err e) r is why same = record {
  passes = tt;
  reply = tt;
  rest = tt;
  tree = tt;
  begun = tt;
  numbered = tt;
  refused = subst (λ (x : Refusal). (refusal_of (tree_in old) c ≡ Some x) ⊎ (x ≡ Enomem)) (sym is) why;
  err = same;
}

-- a call that is accepted, of which nothing is left to do, and whose reply has no list
pub complete-attempts : (old new : FileSystem) (c : Call) (b : Begun) (answer : Reply)
    → b ≡ record { reply = answer; rest = Nothing } → refusal_of (tree_in old) c ≡ None → answer ≡ accepted_reply (tree_in old) c
    → tree_in new ≡ accepted (tree_in old) c → IsNumbered (accepted (tree_in old) c) → takes_memory answer ≡ false → Attempts old c (Ok b) new
complete-attempts old new c b answer is passes answers leads numbered plain =
    subst (λ (x : Begun). Attempts old c (Ok x) new) (sym is)
    (record {
      passes = passes;
      reply = answers;
      rest = tt;
      tree = leads;
      begun = λ list. absurd (false≢true (sym plain ∙ list));
      numbered = numbered;
      refused = tt;
      err = tt;
    })

-- ---- a call that was attempted is begun, where a refusal is a reply

-- what a call answers that was attempted
abbrev pub IsAnswered : Result Begun Refusal → Refusal → Type 0
IsAnswered result r = ((r ≡ Enomem) × (result ≡ Err Enomem)) ⊎ ((r ≢ Enomem) × (result ≡ Ok (record { reply = reply.Refused r; rest = Nothing })))

module _ (old new : FileSystem) (c : Call) (numbered : IsNumbered (tree_in old)) where
  refused-begins : (r : Refusal) → refusal_of (tree_in old) c ≡ Some r → tree_in new ≡ tree_in old
      → Begins old c (Ok (record { reply = reply.Refused r; rest = Nothing })) new
  refused-begins r refused same = record {
    reply = sym (reply_of-refused (tree_in old) c r refused);
    rest = tt;
    tree = same ∙ sym (after-refused (tree_in old) c r refused);
    begun = λ _. same;
    numbered = subst IsNumbered (sym (after-refused (tree_in old) c r refused)) numbered;
    err = tt;
    memory = tt;
  }

  failed-begins : tree_in new ≡ tree_in old → Begins old c (Err Enomem) new
  failed-begins same = record { reply = tt; rest = tt; tree = tt; begun = tt; numbered = tt; err = same; memory = refl }

  answer-begins : (r : Refusal) (result : Result Begun Refusal) → (refusal_of (tree_in old) c ≡ Some r) ⊎ (r ≡ Enomem)
      → tree_in new ≡ tree_in old → IsAnswered result r → Begins old c result new
  answer-begins r result why same (inl is) = subst (λ (x : Result Begun Refusal). Begins old c x new) (sym is.1) (failed-begins same)
  answer-begins r result (inl refused) same (inr is) = subst (λ (x : Result Begun Refusal). Begins old c x new) (sym is.1) (refused-begins r refused same)
  answer-begins r result (inr memory) same (inr is) = absurd (is.0 memory)

  pub attempted-begins : (tried result : Result Begun Refusal) → Attempts old c tried new → IfOk tried (λ b. result ≡ Ok b)
      → IfErr tried (IsAnswered result) → Begins old c result new
  attempted-begins (Ok b) result h is none =
      subst (λ (x : Result Begun Refusal). Begins old c x new) (sym is)
      (record {
        reply = h.reply ∙ sym (reply_of-accepted (tree_in old) c h.passes);
        rest = h.rest;
        tree = h.tree ∙ sym (after-accepted (tree_in old) c h.passes);
        begun = h.begun;
        numbered = subst IsNumbered (sym (after-accepted (tree_in old) c h.passes)) h.numbered;
        err = tt;
        memory = tt;
      })
  attempted-begins (Err r) result h none is = answer-begins r result h.refused h.err is

-- ---- a call that was begun is carried out

-- a call that was begun, and whose rest was done, is replied to as in the tree, and leads to the tree after it
pub record Executes (old : FileSystem) (c : Call) (given : Reply) (new : FileSystem) : Type 0 where
  pub reply : given ≡ reply_of (tree_in old) c
  pub tree : tree_in new ≡ after (tree_in old) c
  pub numbered : IsNumbered (tree_in new)

pub finished-executes : (old begun : FileSystem) (c : Call) (b : Begun) → Begins old c (Ok b) begun → (new : FileSystem)
    → tree_in new ≡ finished begun b.rest → Executes old c b.reply new
finished-executes old begun c b h new done = record {
  reply = h.reply;
  tree = done ∙ h.tree;
  numbered = subst IsNumbered (sym (done ∙ h.tree)) h.numbered;
}
