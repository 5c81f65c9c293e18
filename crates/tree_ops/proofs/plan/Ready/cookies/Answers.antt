use Rattle.std.proofs.Common.{rules}
use Rattle.tree_ops.proofs.plan.Ready.cookies.Goals as goal

pub returns-in-Exchange : goal.returns-in-Exchange
returns-in-Exchange c = search rules
