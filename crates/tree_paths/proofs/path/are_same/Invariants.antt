use Rattle.std.proofs.Common.{◌≡◌, length, nat_eq}
use Rattle.std.specs.Cmp.Lexicographic.{pointwise}
use Rattle.tree_paths.proofs.path.are_same.Given as goal

abbrev pub invariant-loop-name : goal.invariant-loop-name
invariant-loop-name l = pointwise (pointwise nat_eq) l.fn.names l.fn.other ≡ pointwise (pointwise nat_eq) l.names l.other

abbrev pub decreases-loop-name : goal.decreases-loop-name
decreases-loop-name l = length l.names
