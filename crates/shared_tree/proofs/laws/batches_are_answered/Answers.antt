use Rattle.shared_tree.proofs.Answered.{answered}
use Rattle.shared_tree.proofs.laws.batches_are_answered.Goals as goal

pub returns : goal.returns
returns c = λ t place d b. answered t place d b
