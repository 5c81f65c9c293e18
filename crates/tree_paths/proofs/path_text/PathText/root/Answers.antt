use Rattle.std.proofs.Common.{rules}
use Rattle.tree_paths.proofs.path_text.PathText.root.Goals as goal

pub returns-clause-kept : goal.returns-clause-kept
returns-clause-kept c = search rules
