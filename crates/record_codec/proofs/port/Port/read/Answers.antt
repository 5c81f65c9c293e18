use Rattle.std.proofs.Common.{rules}
use Rattle.record_codec.proofs.port.Port.read.Goals as goal

pub returns-else-is_err-clause-err : goal.returns-else-is_err-clause-err
returns-else-is_err-clause-err c = search rules
