use Rattle.std.proofs.Common.{◌≡◌, ◌≤◌, ◌+◌, ◌-◌, length, drop}
use Rattle.std.specs.List.{prefix_len}
use Rattle.watchtree_script.specs.Reading.{is_before}
use Rattle.watchtree_script.proofs.lines.front_len.Given as goal

abbrev pub invariant-loop-len : goal.invariant-loop-len
invariant-loop-len l =
    (l.len ≤ length l.bytes)
    × (prefix_len (is_before l.stop) l.bytes ≡ l.len + prefix_len (is_before l.stop) (drop l.len l.bytes))

abbrev pub decreases-loop-len : goal.decreases-loop-len
decreases-loop-len l = length l.bytes - l.len
