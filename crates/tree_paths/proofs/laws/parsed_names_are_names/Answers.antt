use Rattle.tree_paths.proofs.PieceLemmas.{parsed-named}
use Rattle.tree_paths.proofs.laws.parsed_names_are_names.Goals as goal

pub returns : goal.returns
returns c = parsed-named
