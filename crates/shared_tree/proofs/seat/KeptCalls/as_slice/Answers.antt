use Rattle.std.proofs.Common.{rules}
use Rattle.shared_tree.proofs.seat.KeptCalls.as_slice.Goals as goal

pub returns : goal.returns
returns c = search rules
