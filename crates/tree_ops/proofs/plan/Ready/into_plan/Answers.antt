use Rattle.std.proofs.Common.{rules}
use Rattle.tree_ops.proofs.plan.Ready.into_plan.Goals as goal

pub returns : goal.returns
returns c = search rules
