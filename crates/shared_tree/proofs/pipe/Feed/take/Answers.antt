use Rattle.std.proofs.Common.{rules}
use Rattle.shared_tree.proofs.pipe.Feed.take.Goals as goal

pub returns-clause-some : goal.returns-clause-some
returns-clause-some c = search rules
