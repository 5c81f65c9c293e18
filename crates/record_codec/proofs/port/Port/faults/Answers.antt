use Rattle.std.proofs.Common.{rules}
use Rattle.record_codec.proofs.port.Port.faults.Goals as goal

pub returns : goal.returns
returns c = search rules
