use Rattle.std.proofs.Common.{rules}
use Rattle.tree_paths.proofs.path_name.NameRef.name.Goals as goal

pub in_place-requires-clause-name : goal.in_place-requires-clause-name
in_place-requires-clause-name c = search rules
