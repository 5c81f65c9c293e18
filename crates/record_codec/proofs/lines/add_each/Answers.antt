use Rattle.std.proofs.lemmas.List.{take_all}
use Rattle.record_codec.proofs.LineLemmas.{printed_name-is}
use Rattle.record_codec.proofs.lines.add_each.Goals as goal

pub returns : goal.returns
returns c =
    let all = take_all c.loop-byte.byte-index c.args.bytes.now c.loop-byte-test.false in
    let is = printed_name-is c.args.bytes.now in
    cc (c.loop-byte.invariant.items)
