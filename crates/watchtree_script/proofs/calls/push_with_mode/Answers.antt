use Rattle.std.proofs.Common.{rules}
use Rattle.watchtree_script.proofs.calls.push_with_mode.Goals as goal

pub returns : goal.returns
returns c = search rules
