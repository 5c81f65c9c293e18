use Rattle.std.proofs.Common.{rules}
use Rattle.tree_paths.proofs.names.Names.into_vec.Goals as goal

pub returns : goal.returns
returns c = search rules
