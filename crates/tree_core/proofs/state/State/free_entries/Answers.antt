use Rattle.std.proofs.Common.{rules}
use Rattle.tree_core.proofs.state.State.free_entries.Goals as goal

pub returns : goal.returns
returns c = search rules
