use Rattle.std.proofs.Common.{rules}
use Rattle.tree_paths.proofs.path_text.PathText.left.Goals as goal

pub returns-in-Text-clause-names : goal.returns-in-Text-clause-names
returns-in-Text-clause-names c = search rules
