use Rattle.std.proofs.Common.{rules}
use Rattle.watchtree_c.proofs.files.rename.Goals as goal

pub returns : goal.returns
returns c = search rules
