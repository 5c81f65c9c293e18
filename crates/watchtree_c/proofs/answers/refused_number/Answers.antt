use Rattle.std.proofs.Common.{rules}
use Rattle.watchtree_c.proofs.answers.refused_number.Goals as goal

pub returns : goal.returns
returns c = search rules
