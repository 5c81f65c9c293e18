use Rattle.std.proofs.Common.{◌≡◌, ◌<◌, ◌≤◌, true, drop, length}
use Rattle.std.specs.List.{list_all}
use Rattle.tree_paths.specs.PathText.{is_other}
use Rattle.tree_paths.proofs.path_text.last_start.Given as goal

abbrev pub invariant-loop-start : goal.invariant-loop-start
invariant-loop-start l = record {
  some : 0 < l.start;
  within : l.start ≤ length l.text;
  none : list_all is_other (drop l.start l.text) ≡ true;
}

abbrev pub decreases-loop-start : goal.decreases-loop-start
decreases-loop-start l = l.start
