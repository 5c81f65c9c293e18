use Rattle.watchtree_script.proofs.DigitLemmas.{bytes-below, length-highs, length-lows, highs_below, lows_below, block-digits}
use Rattle.watchtree_script.proofs.print.block_digits.Goals as goal

pub digits_of-high-requires-clause-len : goal.digits_of-high-requires-clause-len
digits_of-high-requires-clause-len c = length-highs c.args.block.now c.told-block

pub digits_of-high-requires-clause-below : goal.digits_of-high-requires-clause-below
digits_of-high-requires-clause-below c = highs_below c.args.block.now (bytes-below c.args.block.now c.fits-block)

pub digits_of-low-requires-clause-len : goal.digits_of-low-requires-clause-len
digits_of-low-requires-clause-len c = length-lows c.args.block.now c.told-block

pub digits_of-low-requires-clause-below : goal.digits_of-low-requires-clause-below
digits_of-low-requires-clause-below c = lows_below c.args.block.now

pub returns : goal.returns
returns c =
    block-digits c.args.block.now c.digits_of-high.result c.digits_of-low.result c.told-block (bytes-below c.args.block.now c.fits-block)
    c.digits_of-high.ensures c.digits_of-low.ensures
