use Rattle.std.proofs.Common.{rules}
use Rattle.watchtree_storm.proofs.course.FinishedStorm.settle.Goals as goal

pub returns-clause-settled : goal.returns-clause-settled
returns-clause-settled g c = search rules
