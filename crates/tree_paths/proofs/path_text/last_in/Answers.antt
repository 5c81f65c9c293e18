use Rattle.std.proofs.Common.{◌-◌, ◌++◌, ◌∷◌, [], List, ℕ, length, take, sym, ap, ◌∙◌}
use Rattle.tree_paths.specs.Paths.{names_of}
use Rattle.tree_paths.proofs.SlashedLemmas.{last-is}
use Rattle.tree_paths.proofs.path_text.last_in.Goals as goal

pub in_text-requires-clause-name : goal.in_text-requires-clause-name
in_text-requires-clause-name c = (last-is c.args.text.now c.last_start.result c.requires c.last_start.ensures).named

pub in_text-requires-clause-short : goal.in_text-requires-clause-short
in_text-requires-clause-short c = (last-is c.args.text.now c.last_start.result c.requires c.last_start.ensures).short

pub returns : goal.returns
returns c =
    let text = c.args.text.now in
    (last-is text c.last_start.result c.requires c.last_start.ensures).last
    ∙ ap (λ (n : List ℕ). take (length (names_of text) - 1) (names_of text) ++ n ∷ []) (sym c.in_text.ensures)
