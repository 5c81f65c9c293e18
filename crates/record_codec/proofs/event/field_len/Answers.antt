use Rattle.std.proofs.Common.{rules}
use Rattle.record_codec.proofs.event.field_len.Goals as goal

pub returns : goal.returns
returns c = search rules
