use Rattle.std.proofs.Common.{rules}
use Rattle.tree_paths.proofs.path.Path.is_root.Goals as goal

pub returns : goal.returns
returns c = search rules
