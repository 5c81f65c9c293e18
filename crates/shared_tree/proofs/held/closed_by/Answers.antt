use Rattle.std.proofs.Common.{rules}
use Rattle.shared_tree.proofs.held.closed_by.Goals as goal

pub returns-in-Close : goal.returns-in-Close
returns-in-Close c = search rules
