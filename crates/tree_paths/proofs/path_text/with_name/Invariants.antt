use Rattle.std.proofs.Common.{◌≡◌, ◌++◌, length}
use Rattle.tree_paths.proofs.path_text.with_name.Given as goal

abbrev pub invariant-loop-name : goal.invariant-loop-name
invariant-loop-name l = l.longer.items ++ l.names ≡ l.fn.names

abbrev pub decreases-loop-name : goal.decreases-loop-name
decreases-loop-name l = length l.names
