use Rattle.std.proofs.Common.{sym, ◌∙◌}
use Rattle.std.proofs.lemmas.List.{drop-drop}
use Rattle.watchtree_script.proofs.PieceLemmas.{pieces-at, pieces-none, from-index}
use Rattle.watchtree_script.proofs.pieces.split_first.Goals as goal

pub returns-in-Some : goal.returns-in-Some
returns-in-Some c =
    let s = c.args.separator in
    let bs = c.args.bytes.now in
    rw (from-index 1 c.split_at.result.1.now, c.split_at.ensures.front, c.split_at.ensures.back, drop-drop 1 c.in-Some.at bs)
    (pieces-at s bs c.in-Some.at (sym c.position_of.ensures ∙ c.in-Some.is))

pub returns-in-None : goal.returns-in-None
returns-in-None c = pieces-none c.args.separator c.args.bytes.now (sym c.position_of.ensures ∙ c.in-None.is)
