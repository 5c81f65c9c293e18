use Rattle.std.proofs.Common.{◌≡◌, ◌++◌, length}
use Rattle.hex.specs.Hex.{encode_lower}
use Rattle.watchtree_script.proofs.print.push_digits.Given as goal

abbrev pub invariant-loop-block : goal.invariant-loop-block
invariant-loop-block l = l.text.items ++ encode_lower l.rest ≡ l.initial.text.items ++ encode_lower l.initial.rest

abbrev pub decreases-loop-block : goal.decreases-loop-block
decreases-loop-block l = length l.rest
