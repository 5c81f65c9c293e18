use Rattle.std.proofs.Common.{ap, ◌∙◌}
use Rattle.tree_paths.specs.Paths.{slashed}
use Rattle.tree_paths.proofs.SlashedLemmas.{text-is}
use Rattle.tree_paths.proofs.path.Path.text.Goals as goal

pub returns-clause-text : goal.returns-clause-text
returns-clause-text c = text-is c.in_ok-whole.whole.now c.in_ok-whole.ensures.sound ∙ ap slashed (c.in_ok-whole.ensures.names ∙ c.self.view_is)
