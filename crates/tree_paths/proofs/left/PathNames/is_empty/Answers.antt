use Rattle.std.proofs.Common.{◌≡◌, subst}
use Rattle.tree_paths.specs.PathText.{IsLeft, left_names}
use Rattle.tree_paths.specs.declared.left.Left.{Left}
use Rattle.tree_paths.proofs.SlashedLemmas.{empty-decides}
use Rattle.tree_paths.proofs.left.PathNames.is_empty.Goals as goal

pub returns-in-InText : goal.returns-in-InText
returns-in-InText c =
    empty-decides c.in-InText.text.now c.args.self.now c.is_empty.result (subst IsLeft c.in-InText.is c.self.invariant).0
    (subst (λ (l : Left). left_names l ≡ c.args.self.now) c.in-InText.is c.self.view_is) c.is_empty.ensures
