use Rattle.std.proofs.Common.{rules}
use Rattle.shared_tree.proofs.pipe.Pipe.is_full.Goals as goal

pub returns-clause-free : goal.returns-clause-free
returns-clause-free c = search rules
