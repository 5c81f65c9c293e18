use Rattle.std.proofs.Common.{rules}
use Rattle.shared_tree.proofs.seat.KeptCalls.from_vec.Goals as goal

pub returns : goal.returns
returns c = search rules
