use Rattle.std.proofs.Common.{rules}
use Rattle.record_codec.proofs.lines.are_plain.Goals as goal

pub loop-chunk-preserved : goal.loop-chunk-preserved
loop-chunk-preserved c = search rules
