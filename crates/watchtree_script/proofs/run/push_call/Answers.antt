use Rattle.std.proofs.Common.{Option, ◌++◌, inl, ap, subst, ◌∙◌}
use Rattle.std.specs.Prelude.{IfSome}
use Rattle.tree_core.specs.declared.reply.Entry.{Entry}
use Rattle.tree_core.specs.declared.reply.Reply.TheVariants as replies
use Rattle.tree_core.specs.Journal.{now}
use Rattle.tree_core.specs.Tree.{reply_of}
use Rattle.watchtree_script.specs.Replies.{IsReplyText, refusal_text}
use Rattle.watchtree_script.proofs.Recorded.{on_ok-map, recorded-answers, recorded-last, unrecorded-replies}
use Rattle.watchtree_script.proofs.run.push_call.Goals as goal

pub push_last-requires-clause-entry : goal.push_last-requires-clause-entry
push_last-requires-clause-entry c = (_, recorded-last c.args.state.now c.record.new.self c.args.call _ c.in-Ok.ensures.applied, c.in-Ok.ensures.spelled)

pub returns-in-Ok-clause-ok : goal.returns-in-Ok-clause-ok
returns-in-Ok-clause-ok c =
    let old = c.args.state.now in
    let new = c.record.new.self in
    let text = c.push_last.new.text.items in
    on_ok-map c.push_last.result
    (λ said. (
      reply_of (now old) c.args.call,
      inl (inl (recorded-answers old new c.args.call _ c.in-Ok.ensures.applied)),
      subst (λ (o : Option Entry). IfSome o (λ e. IsReplyText c.args.format e.reply text)) (recorded-last old new c.args.call _ c.in-Ok.ensures.applied) said,
    )) c.push_last.ensures

pub returns-in-Err-clause-ok : goal.returns-in-Err-clause-ok
returns-in-Err-clause-ok c =
    let r = c.in-Err.refusal in
    on_ok-map c.push_refusal.result
    (λ said. (
      replies.Refused r,
      unrecorded-replies c.args.state.now c.record.new.self c.args.call r c.in-Err.ensures.applied,
      said ∙ ap (λ xs. xs ++ refusal_text r) c.requires,
    )) c.push_refusal.ensures
