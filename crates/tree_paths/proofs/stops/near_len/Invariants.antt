use Rattle.std.proofs.Common.{◌≡◌, true, take}
use Rattle.std.specs.List.{list_all}
use Rattle.record_codec.specs.Names.{is_name_byte}
use Rattle.tree_paths.proofs.stops.near_len.Given as goal

abbrev pub invariant-loop-i : goal.invariant-loop-i
invariant-loop-i l = list_all is_name_byte (take l.i l.text) ≡ true
