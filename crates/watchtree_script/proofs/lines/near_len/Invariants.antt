use Rattle.std.proofs.Common.{◌≡◌, ◌+◌, drop}
use Rattle.std.specs.List.{prefix_len}
use Rattle.watchtree_script.specs.Reading.{is_before}
use Rattle.watchtree_script.proofs.lines.near_len.Given as goal

abbrev pub invariant-loop-i : goal.invariant-loop-i
invariant-loop-i l = prefix_len (is_before l.stop) l.bytes ≡ l.i + prefix_len (is_before l.stop) (drop l.i l.bytes)
