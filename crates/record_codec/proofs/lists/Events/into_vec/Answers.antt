use Rattle.std.proofs.Common.{rules}
use Rattle.record_codec.proofs.lists.Events.into_vec.Goals as goal

pub returns : goal.returns
returns c = search rules
