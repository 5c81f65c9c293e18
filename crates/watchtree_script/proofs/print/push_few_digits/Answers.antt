use Rattle.std.proofs.Common.{rules}
use Rattle.watchtree_script.proofs.print.push_few_digits.Goals as goal

pub returns : goal.returns
returns c = search rules
