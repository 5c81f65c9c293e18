use Rattle.std.proofs.Common.{◌-◌, ◌++◌, ◌∷◌, [], List, ℕ, length, take, sym, ap, ◌∙◌}
use Rattle.tree_paths.specs.Paths.{names_of}
use Rattle.tree_paths.proofs.SlashedLemmas.{last-is, parent-is}
use Rattle.tree_paths.proofs.path_text.split_last_in.Goals as goal

pub in_text-requires-clause-name : goal.in_text-requires-clause-name
in_text-requires-clause-name c = (last-is c.args.text.now c.last_start-start.result c.requires c.last_start-start.ensures).named

pub in_text-requires-clause-short : goal.in_text-requires-clause-short
in_text-requires-clause-short c = (last-is c.args.text.now c.last_start-start.result c.requires c.last_start-start.ensures).short

pub returns-clause-text : goal.returns-clause-text
returns-clause-text c = parent-is c.args.text.now c.last_start-start.result c.requires c.last_start-start.ensures

pub returns-clause-last : goal.returns-clause-last
returns-clause-last c =
    let text = c.args.text.now in
    (last-is text c.last_start-start.result c.requires c.last_start-start.ensures).last
    ∙ ap (λ (n : List ℕ). take (length (names_of text) - 1) (names_of text) ++ n ∷ []) (sym c.in_text.ensures)
