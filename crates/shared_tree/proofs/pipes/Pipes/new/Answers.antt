use Rattle.std.proofs.Common.{refl, arith}
use Rattle.shared_tree.proofs.pipes.Pipes.new.Goals as goal

pub invariant_of-result : goal.invariant_of-result
invariant_of-result c = rw (c.new.ensures.items, c.new-2.ensures.items) ((1, omega arith), refl)
