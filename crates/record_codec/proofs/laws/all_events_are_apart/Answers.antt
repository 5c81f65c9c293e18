use Rattle.std.proofs.Common.{rules}
use Rattle.record_codec.proofs.laws.all_events_are_apart.Goals as goal

pub returns-clause-union : goal.returns-clause-union
returns-clause-union c = search rules
