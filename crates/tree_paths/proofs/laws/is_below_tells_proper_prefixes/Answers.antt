use Rattle.tree_paths.proofs.BelowLemmas.{below, is-below}
use Rattle.tree_paths.proofs.laws.is_below_tells_proper_prefixes.Goals as goal

pub returns : goal.returns
returns c path above = (is-below path above, below path above)
