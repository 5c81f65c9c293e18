use Rattle.std.proofs.Common.{arith}
use Rattle.std.proofs.lemmas.Grind.{common_steps}
use Rattle.tree_paths.proofs.path_text.PathText.last.Goals as goal

pub returns-in_ok-name-in-Names : goal.returns-in_ok-name-in-Names
returns-in_ok-name-in-Names c = grind (arith, common_steps)
