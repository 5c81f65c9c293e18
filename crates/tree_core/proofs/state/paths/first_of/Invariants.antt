use Rattle.std.proofs.Common.{◌≡◌, None, take}
use Rattle.tree_core.proofs.PathsFound.{row_of}
use Rattle.tree_core.proofs.state.paths.first_of.Given as goal

abbrev pub invariant-loop-path : goal.invariant-loop-path
invariant-loop-path l = row_of (take l.path-index l.rows) l.number ≡ None
