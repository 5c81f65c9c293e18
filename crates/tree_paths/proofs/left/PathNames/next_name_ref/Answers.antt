use Rattle.std.proofs.Common.{rules}
use Rattle.tree_paths.proofs.left.PathNames.next_name_ref.Goals as goal

pub returns-else-is_empty : goal.returns-else-is_empty
returns-else-is_empty c = search rules
