use Rattle.std.proofs.Common.{◌≡◌, ◌≤◌, ◌+◌, ◌-◌, ◌*◌, ◌++◌, take, length, vec_len, vec_capacity}
use Rattle.std.specs.List.{flat_map}
use Rattle.record_codec.specs.Lines.{printed_byte}
use Rattle.record_codec.proofs.lines.add_each.Given as goal

abbrev pub invariant-loop-byte : goal.invariant-loop-byte
invariant-loop-byte l = record {
  items : l.out.items ≡ l.fn.out.items ++ flat_map printed_byte (take l.byte-index l.bytes);
  room : vec_len l.out + 3 * (length l.bytes - l.byte-index) ≤ vec_capacity l.out;
}
