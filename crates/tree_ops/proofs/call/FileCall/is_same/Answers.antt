use Rattle.tree_ops.proofs.Same.{calls_same}
use Rattle.tree_ops.proofs.call.FileCall.is_same.Goals as goal

pub returns : goal.returns
returns c = rw c.eq.ensures (calls_same c.args.self.now c.args.other.now)
