use Rattle.std.proofs.Common.{rules}
use Rattle.tree_core.proofs.state.State.last_place.Goals as goal

pub returns : goal.returns
returns c = search rules
