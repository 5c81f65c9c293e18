use Rattle.std.proofs.Common.{◌-◌, length, drop, arith, take_all}
use Rattle.std.proofs.lemmas.List.{length-drop}
use Rattle.tree_paths.proofs.SlashedLemmas.{first-split}
use Rattle.tree_paths.proofs.left.split_first.Goals as goal

pub returns-clause-split : goal.returns-clause-split
returns-clause-split c =
    let text = c.args.text.now in
    let ens = c.next_stop-len.ensures in
    first-split text _ c.next_stop-len.result.0 c.requires.slashed c.requires.some
    (take_all (length text - 1) (drop 1 text) (omega (arith, length-drop 1 text))) ens.front ens.end
