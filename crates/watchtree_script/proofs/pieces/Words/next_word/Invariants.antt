use Rattle.std.proofs.Common.{◌≡◌, length}
use Rattle.tree_paths.specs.Pieces.{runs}
use Rattle.watchtree_script.proofs.pieces.Words.next_word.Given as goal

abbrev pub invariant-loop-self : goal.invariant-loop-self
invariant-loop-self l = runs l.self-inside.separator l.self-inside.rest.now ≡ l.fn.self

abbrev pub decreases-loop-self : goal.decreases-loop-self
decreases-loop-self l = length l.self-inside.rest.now
