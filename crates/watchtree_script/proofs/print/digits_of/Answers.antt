use Rattle.watchtree_script.proofs.DigitLemmas.{glyphs-are}
use Rattle.watchtree_script.proofs.print.digits_of.Goals as goal

pub returns : goal.returns
returns c = glyphs-are c.args.values 16 c.requires.len c.requires.below
