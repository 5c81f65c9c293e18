use Rattle.std.proofs.Common.{rules}
use Rattle.tree_ops.proofs.plan.Plan.other_path.Goals as goal

pub returns : goal.returns
returns c = search rules
