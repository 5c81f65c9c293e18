use Rattle.std.proofs.Common.{◌≡◌, ◌+◌, ◌++◌, false, take, length}
use Rattle.std.specs.List.{list_any}
use Rattle.tree_paths.specs.PathText.{IsMarked}
use Rattle.tree_paths.specs.Paths.{names_of, is_null, slashed}
use Rattle.tree_paths.proofs.parse.squeeze.Given as goal

abbrev pub invariant-loop-rest : goal.invariant-loop-rest
invariant-loop-rest l = record {
  written : take l.at l.out ++ slashed (names_of l.rest) ≡ slashed (names_of l.text);
  len : l.at + length (slashed (names_of l.rest)) ≡ length l.out;
  marked : IsMarked l.rest l.stops;
  no_null : list_any is_null l.rest ≡ false;
}

abbrev pub decreases-loop-rest : goal.decreases-loop-rest
decreases-loop-rest l = length l.rest
