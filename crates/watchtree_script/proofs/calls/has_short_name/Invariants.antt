use Rattle.std.proofs.Common.{◌≡◌, ◌+◌, ◌<◌, length}
use Rattle.tree_paths.specs.Paths.{slashed}
use Rattle.watchtree_script.proofs.calls.has_short_name.Given as goal

abbrev pub invariant-loop-name : goal.invariant-loop-name
invariant-loop-name l = record {
  short : l.len < 4096;
  sum : l.len + length (slashed l.names) ≡ length (slashed l.path);
}

abbrev pub decreases-loop-name : goal.decreases-loop-name
decreases-loop-name l = length l.names
