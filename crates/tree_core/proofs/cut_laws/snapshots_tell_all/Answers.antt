use Rattle.std.proofs.Common.{ap, sym, ◌∙◌}
use Rattle.tree_core.specs.Kept.{tree_of}
use Rattle.tree_core.proofs.Shown.{tree_of-snapshot}
use Rattle.tree_core.proofs.cut_laws.snapshots_tell_all.Goals as goal

pub returns : goal.returns
returns c = λ t u p q s one two limits shows tells. (
  sym (tree_of-snapshot t p s one shows) ∙ ap (λ l. tree_of l s) limits ∙ tree_of-snapshot u q s two tells,
  sym shows.last_place ∙ tells.last_place,
)
