use Rattle.std.proofs.Common.{rules}
use Rattle.tree_ops.proofs.paths.Paths.other_path.Goals as goal

pub returns-clause-path : goal.returns-clause-path
returns-clause-path c = search rules

pub returns-clause-names : goal.returns-clause-names
returns-clause-names c = search rules
