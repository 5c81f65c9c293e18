use Rattle.std.proofs.Common.{rules}
use Rattle.tree_ops.proofs.paths.CallPaths.resolve_recent.Goals as goal

pub returns-clause-paths : goal.returns-clause-paths
returns-clause-paths c = search rules
