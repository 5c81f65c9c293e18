use Rattle.std.proofs.Common.{◌<◌, length, arith}
use Rattle.std.proofs.lemmas.List.{drop-drop}
use Rattle.watchtree_script.proofs.LineLemmas.{line-cut, line-end}
use Rattle.watchtree_script.proofs.PieceLemmas.{from-index}
use Rattle.watchtree_script.proofs.lines.cut_printable.Goals as goal

pub returns-then-len-bytes-clause-pieces : goal.returns-then-len-bytes-clause-pieces
returns-then-len-bytes-clause-pieces c = line-end c.args.bytes.now c.args.len c.if-len-bytes.true c.requires.front

pub returns-clause-pieces : goal.returns-clause-pieces
returns-clause-pieces c =
    let bs = c.args.bytes.now in
    let lt : c.args.len < length bs = omega (arith, c.requires.within, c.if-len-bytes.false) in
    rw (from-index 1 c.split_at.result.1.now, c.split_at.ensures.front, c.split_at.ensures.back, drop-drop 1 c.args.len bs)
    (line-cut bs c.args.len lt c.requires.front (c.requires.end lt))
