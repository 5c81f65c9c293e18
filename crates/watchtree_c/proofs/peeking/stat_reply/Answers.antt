use Rattle.std.proofs.Common.{inl}
use Rattle.tree_ops.specs.declared.call.FileCall.TheVariants as file
use Rattle.tree_core.specs.declared.call.Call.TheVariants as call
use Rattle.watchtree_c.proofs.Unmade.{asked, unasked}
use Rattle.watchtree_c.proofs.peeking.stat_reply.Goals as goal

pub returns-in-Ok : goal.returns-in-Ok
returns-in-Ok c = asked c.args.state.now (λ p. call.File (file.Stat p)) c.args.path.now c.in-Ok.path c.stat_at.result c.in-Ok.ensures.ok (inl c.stat_at.ensures)

pub returns-in-Err : goal.returns-in-Err
returns-in-Err c = unasked c.args.state.now (λ p. call.File (file.Stat p)) c.args.path.now c.in-Err.refusal c.in-Err.ensures.err
