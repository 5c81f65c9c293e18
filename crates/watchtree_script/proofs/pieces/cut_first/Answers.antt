use Rattle.std.proofs.Common.{sym, ap, ◌∙◌}
use Rattle.std.specs.Prelude.{filter}
use Rattle.std.proofs.lemmas.List.{drop-drop}
use Rattle.tree_paths.specs.Pieces.{is_nonempty}
use Rattle.watchtree_script.proofs.PieceLemmas.{pieces-at, pieces-none, from-index}
use Rattle.watchtree_script.proofs.pieces.cut_first.Goals as goal

pub returns-in-Some-clause-cut : goal.returns-in-Some-clause-cut
returns-in-Some-clause-cut c =
    let s = c.args.separator in
    let bs = c.args.bytes.now in
    rw (from-index 1 c.split_at.result.1.now, c.split_at.ensures.front, c.split_at.ensures.back, drop-drop 1 c.in-Some.at bs)
    (ap (filter is_nonempty) (pieces-at s bs c.in-Some.at (sym c.position_of.ensures ∙ c.in-Some.is)))

pub returns-in-None-clause-cut : goal.returns-in-None-clause-cut
returns-in-None-clause-cut c =
    ap (filter is_nonempty) (pieces-none c.args.separator c.args.bytes.now (sym c.position_of.ensures ∙ c.in-None.is))
