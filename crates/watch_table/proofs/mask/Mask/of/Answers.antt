use Rattle.std.proofs.Common.{rules}
use Rattle.bitflags.proofs.OnLiterals.{bitflags_on_literals}
use Rattle.watch_table.proofs.mask.Mask.of.Goals as goal

pub returns : goal.returns
unfolding bitflags_on_literals
returns c = search rules
