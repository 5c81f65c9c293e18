use Rattle.std.proofs.Common.{rules}
use Rattle.watchtree_c.proofs.life.forking.Goals as goal

pub returns-clause-state : goal.returns-clause-state
returns-clause-state c = search rules
