use Rattle.std.proofs.Common.{◌≡◌, ◌≤◌, ◌+◌, ◌-◌, length, take}
use Rattle.tree_paths.specs.PathText.{stops_in}
use Rattle.tree_paths.proofs.stops.stops_by.Given as goal

abbrev pub invariant-loop-seen : goal.invariant-loop-seen
invariant-loop-seen g l = record {
  within : l.seen ≤ length l.text;
  few : l.seen + g.row.N ≤ 64;
  is : l.stops ≡ stops_in (take l.seen l.text);
}

abbrev pub decreases-loop-seen : goal.decreases-loop-seen
decreases-loop-seen g l = length l.text - l.seen
