use Rattle.std.proofs.Common.{rules}
use Rattle.tree_core.proofs.call.Call.is_plain.Goals as goal

pub returns : goal.returns
returns c = search rules
