use Rattle.tree_paths.proofs.PathnameLemmas.{pathname-parsed}
use Rattle.tree_paths.proofs.laws.pathnames_are_parsed.Goals as goal

pub returns : goal.returns
returns c = pathname-parsed
