use Rattle.tree_core.proofs.Lawful.{forks-answer-alike}
use Rattle.tree_core.proofs.cut_laws.forks_answer_alike.Goals as goal

pub returns : goal.returns
returns c = forks-answer-alike
