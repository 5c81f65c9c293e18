use Rattle.std.proofs.Common.{rules}
use Rattle.tree_ops.proofs.checking.are_same.Goals as goal

pub returns-in-Some-Some : goal.returns-in-Some-Some
returns-in-Some-Some c = search rules
