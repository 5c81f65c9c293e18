use Rattle.std.proofs.Common.{rules}
use Rattle.shared_tree.proofs.pipe.Pipe.push.Goals as goal

pub returns : goal.returns
returns c = search rules
