use Rattle.std.proofs.Common.{◌≡◌, ◌++◌, length}
use Rattle.record_codec.specs.Lines.{printed_name}
use Rattle.tree_paths.specs.Paths.{slashed}
use Rattle.watchtree_script.proofs.calls.push_long_names.Given as goal

abbrev pub invariant-loop-name : goal.invariant-loop-name
invariant-loop-name l = l.text.items ++ printed_name (slashed l.names) ≡ l.initial.text.items ++ printed_name (slashed l.initial.names)

abbrev pub decreases-loop-name : goal.decreases-loop-name
decreases-loop-name l = length l.names
