use Rattle.std.proofs.Common.{rules}
use Rattle.shared_tree.proofs.pipe.Feed.instance.Goals as goal

pub returns : goal.returns
returns c = search rules
