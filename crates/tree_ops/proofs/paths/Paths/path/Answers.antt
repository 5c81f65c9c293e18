use Rattle.std.proofs.Common.{rules}
use Rattle.tree_ops.proofs.paths.Paths.path.Goals as goal

pub returns-clause-path : goal.returns-clause-path
returns-clause-path c = search rules
