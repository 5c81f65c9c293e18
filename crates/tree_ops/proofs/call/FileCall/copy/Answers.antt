use Rattle.std.proofs.Common.{rules}
use Rattle.tree_ops.proofs.call.FileCall.copy.Goals as goal

pub returns-clause-ok : goal.returns-clause-ok
returns-clause-ok c = search rules
