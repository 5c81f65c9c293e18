use Rattle.std.proofs.Common.{ap, rules, subst, sym, take, ◌∙◌}
use Rattle.std.specs.List.{list_all}
use Rattle.tree_paths.specs.PathText.{kept_names, IsKept}
use Rattle.tree_paths.specs.Paths.{is_in_place}
use Rattle.tree_paths.proofs.SlashedLemmas.{text-in-place}
use Rattle.tree_paths.proofs.path_text.PathText.text.Goals as goal

pub returns-in-Short-clause-some : goal.returns-in-Short-clause-some
returns-in-Short-clause-some c =
    let kept = subst IsKept c.in-Short.is c.requires in
    sym (ap (λ k. list_all is_in_place (kept_names k)) c.in-Short.is ∙ text-in-place (take c.in-Short.len c.in-Short.text) kept.1)

pub returns-in-Text-clause-some : goal.returns-in-Text-clause-some
returns-in-Text-clause-some c =
    sym (ap (λ k. list_all is_in_place (kept_names k)) c.in-Text.is ∙ text-in-place c.in-Text.text.items (subst IsKept c.in-Text.is c.requires))

pub returns-in-Text-clause-names : goal.returns-in-Text-clause-names
returns-in-Text-clause-names c = search rules
