use Rattle.std.proofs.Common.{◌≡◌, length}
use Rattle.tree_paths.specs.Paths.{is_below}
use Rattle.tree_paths.proofs.path.are_below.Given as goal

abbrev pub invariant-loop-front : goal.invariant-loop-front
invariant-loop-front l = is_below l.fn.names l.fn.above ≡ is_below l.names l.above

abbrev pub decreases-loop-front : goal.decreases-loop-front
decreases-loop-front l = length l.above
