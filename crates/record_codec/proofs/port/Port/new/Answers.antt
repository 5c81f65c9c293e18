use Rattle.std.proofs.Common.{rules}
use Rattle.record_codec.proofs.port.Port.new.Goals as goal

pub returns-clause-faults : goal.returns-clause-faults
returns-clause-faults c = search rules
