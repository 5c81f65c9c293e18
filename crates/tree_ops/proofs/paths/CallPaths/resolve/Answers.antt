use Rattle.std.proofs.Common.{rules}
use Rattle.tree_ops.proofs.paths.CallPaths.resolve.Goals as goal

pub returns : goal.returns
returns c = search rules
