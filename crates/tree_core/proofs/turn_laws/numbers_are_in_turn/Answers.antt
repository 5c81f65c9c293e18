use Rattle.tree_core.proofs.Descriptors.{descriptors-run-on}
use Rattle.tree_core.proofs.Turns.{numbers-in-turn, ids-in-turn}
use Rattle.tree_core.proofs.turn_laws.numbers_are_in_turn.Goals as goal

pub returns : goal.returns
returns c =
    record { files = numbers-in-turn; instances = ids-in-turn; descriptors = descriptors-run-on c.other_watches_stay.ensures.part c.trees_are_sound.ensures }
