use Rattle.std.proofs.Common.{w8, arith}
use Rattle.std.proofs.lemmas.Simd.{bitmask_splat}
use Rattle.record_codec.proofs.reading.zeros_in.Goals as goal

pub returns : goal.returns
returns c = bitmask_splat w8 _ c.args.block.now 16 0 c.told-block (omega arith)
