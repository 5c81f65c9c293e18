use Rattle.std.proofs.Common.{◌<◌, ℕ, ap, arith, subst}
use lib.Count.{count_trailing_zeros}
use Rattle.watchtree_script.proofs.PieceLemmas.{first-position, first-separator}
use Rattle.watchtree_script.proofs.pieces.position_of.Goals as goal

pub returns-then-separators-ne0 : goal.returns-then-separators-ne0
returns-then-separators-ne0 c =
    let is = c.block_separators-separators.ensures in
    let found = c.block_separators-separators.result in
    first-separator c.args.separator c.args.bytes.now (count_trailing_zeros 64 found) (omega (arith, c.if-bytes-lt-BLOCK.false))
    (subst (λ (n : ℕ). 0 < n) is (omega (arith, c.if-separators-ne0.true))) (ap (count_trailing_zeros 64) is)

pub returns : goal.returns
returns c = first-position c.args.separator c.args.bytes.now c.memchr.result c.memchr.ensures
