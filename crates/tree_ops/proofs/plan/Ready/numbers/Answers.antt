use Rattle.std.proofs.Common.{rules}
use Rattle.tree_ops.proofs.plan.Ready.numbers.Goals as goal

pub returns-in-Create : goal.returns-in-Create
returns-in-Create c = search rules
