use Rattle.tree_core.proofs.Lawful.{cuts-keep-answers}
use Rattle.tree_core.proofs.cut_laws.cuts_keep_answers.Goals as goal

pub returns : goal.returns
returns c = cuts-keep-answers c.trees_are_sound.ensures
