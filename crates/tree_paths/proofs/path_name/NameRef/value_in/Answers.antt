use Rattle.std.proofs.Common.{rules}
use Rattle.tree_paths.proofs.path_name.NameRef.value_in.Goals as goal

pub returns-in-InList : goal.returns-in-InList
returns-in-InList c = search rules
