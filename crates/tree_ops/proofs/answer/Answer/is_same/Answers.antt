use Rattle.tree_ops.proofs.Same.{answers_same}
use Rattle.tree_ops.proofs.answer.Answer.is_same.Goals as goal

pub returns : goal.returns
returns c = rw c.eq.ensures (answers_same c.args.self.now c.args.other.now)
