use Rattle.std.proofs.Common.{rules}
use Rattle.record_codec.proofs.name.NamePartialEq.eq.Goals as goal

pub returns : goal.returns
returns c = search rules
