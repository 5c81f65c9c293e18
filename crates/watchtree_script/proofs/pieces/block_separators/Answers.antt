use Rattle.std.proofs.Common.{w8, nat_eq, arith}
use Rattle.std.proofs.lemmas.Simd.{bitmask_splat, length-chunk}
use lib.Lanes.{chunk}
use Rattle.watchtree_script.proofs.pieces.block_separators.Goals as goal

pub returns : goal.returns
returns c =
    let bytes = c.args.bytes.now in
    let long = length-chunk 0 16 bytes (omega (arith, c.requires)) in
    bitmask_splat w8 nat_eq (chunk 0 16 bytes) 16 c.args.separator long (omega arith)
