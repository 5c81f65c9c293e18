use Rattle.std.proofs.Common.{sym, rules, inl}
use Rattle.tree_ops.specs.declared.call.FileCall.TheVariants as file
use Rattle.tree_ops.specs.declared.answer.Answer.TheVariants as answer
use Rattle.tree_core.specs.declared.call.Call.TheVariants as call
use Rattle.tree_core.specs.declared.reply.Reply.TheVariants as reply
use Rattle.watchtree_c.proofs.Unmade.{refused-may}
use Rattle.watchtree_c.proofs.peeking.names_at.Goals as goal

pub returns-in-Ok : goal.returns-in-Ok
returns-in-Ok c = record { r = reply.File (answer.Names c.in-Ok.names); made = inl (sym c.in-Ok.ensures.ok); is_listed = search rules }

pub returns-in-Err : goal.returns-in-Err
returns-in-Err c =
    record {
      r = reply.Refused c.in-Err.refusal;
      made = refused-may c.args.state.now (call.File (file.List c.args.path.now)) c.in-Err.refusal c.in-Err.ensures.err;
      is_listed = search rules;
    }
