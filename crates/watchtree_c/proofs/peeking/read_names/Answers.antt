use Rattle.std.proofs.Common.{rules}
use Rattle.tree_ops.specs.declared.call.FileCall.TheVariants as file
use Rattle.tree_core.specs.declared.call.Call.TheVariants as call
use Rattle.tree_core.specs.declared.reply.Reply.TheVariants as reply
use Rattle.watchtree_c.proofs.Unmade.{asked, unasked, lists-of}
use Rattle.watchtree_c.proofs.peeking.read_names.Goals as goal

pub returns-in-Ok : goal.returns-in-Ok
returns-in-Ok c =
    lists-of _ _ c.names_at.result _ _ _ (search rules)
    (λ r may. asked c.args.state.now (λ p. call.File (file.List p)) c.args.path.now c.in-Ok.path r c.in-Ok.ensures.ok may) c.names_at.ensures

pub returns-in-Err : goal.returns-in-Err
returns-in-Err c =
    record {
      r = reply.Refused c.in-Err.refusal;
      made = unasked c.args.state.now (λ p. call.File (file.List p)) c.args.path.now c.in-Err.refusal c.in-Err.ensures.err;
      is_listed = search rules;
    }
