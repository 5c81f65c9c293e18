use Rattle.std.proofs.Common.{◌≡◌, length, arith}
use Rattle.record_codec.proofs.LineLemmas.{length-escape}
use Rattle.record_codec.proofs.lines.add_byte.Goals as goal

pub add-requires : goal.add-requires
add-requires c =
    let three : length c.as_bytes.result.now ≡ 3 = rw (c.as_bytes.ensures.value, c.percent_encode_byte.ensures) (length-escape c.args.byte) in
    omega arith

pub returns-else-is_plain-clause-len : goal.returns-else-is_plain-clause-len
returns-else-is_plain-clause-len c =
    let three : length c.as_bytes.result.now ≡ 3 = rw (c.as_bytes.ensures.value, c.percent_encode_byte.ensures) (length-escape c.args.byte) in
    omega arith
