use Rattle.tree_core.proofs.Lawful.{pasts-make-whole}
use Rattle.tree_core.proofs.cut_laws.pasts_make_whole.Goals as goal

pub returns : goal.returns
returns c = pasts-make-whole c.trees_are_sound.ensures
