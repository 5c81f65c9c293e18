use Rattle.std.proofs.Common.{subst, sym}
use Rattle.shared_tree.proofs.Pushing.{found}
use Rattle.shared_tree.specs.Held.{IsPlaceOf}
use Rattle.shared_tree.proofs.pipes.find.Goals as goal

pub returns : goal.returns
returns c =
    subst (IsPlaceOf c.args.numbers.now c.args.instance) (sym c.ok.ensures.value)
    (found c.args.numbers.now c.args.instance c.requires.0 c.binary_search.result c.requires.1 c.binary_search.ensures.position)
