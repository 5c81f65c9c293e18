use Rattle.watchtree_script.proofs.DigitLemmas.{block-pushed}
use Rattle.watchtree_script.proofs.print.push_digits.Goals as goal

pub loop-block-preserved : goal.loop-block-preserved
loop-block-preserved c =
    block-pushed c.loop-block.text.items c.extend_from_slice.new.self.items c.extend_from_slice-in-Some.new.self.items c.in-Some.block.now c.loop-block.rest.now
    c.in-Some.others.now c.block_digits.result.0 c.block_digits.result.1 c.as_array.result.now c.as_array-in-Some.result.now _ c.loop-block.invariant
    c.in-Some.ensures.cases.0 c.in-Some.ensures.cases.1 c.block_digits.ensures c.as_array.ensures c.as_array-in-Some.ensures
    c.in_ok-extend_from_slice.ensures.items c.in_ok-extend_from_slice-2.ensures.items
