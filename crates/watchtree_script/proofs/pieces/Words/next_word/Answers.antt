use Rattle.std.proofs.Common.{rules}
use Rattle.watchtree_script.proofs.pieces.Words.next_word.Goals as goal

pub loop-self-smaller : goal.loop-self-smaller
loop-self-smaller c = search rules
