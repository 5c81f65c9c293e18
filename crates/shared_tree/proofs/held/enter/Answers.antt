use Rattle.std.proofs.Common.{rules}
use Rattle.shared_tree.proofs.held.enter.Goals as goal

pub returns-clause-ok : goal.returns-clause-ok
returns-clause-ok c = search rules
