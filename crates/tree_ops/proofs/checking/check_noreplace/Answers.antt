use Rattle.std.proofs.Common.{rules}
use Rattle.tree_ops.proofs.checking.check_noreplace.Goals as goal

pub returns-clause-moves : goal.returns-clause-moves
returns-clause-moves c = search rules
