use Rattle.std.proofs.Common.{take, drop, refl, sym, ap, ◌∙◌, arith}
use Rattle.std.proofs.lemmas.List.{take_rest}
use Rattle.std.specs.List.{list_all}
use Rattle.record_codec.specs.Names.{is_name_byte}
use Rattle.tree_paths.proofs.StopLemmas.{block-front, front-more, no-stops}
use Rattle.tree_paths.proofs.parse.front_len.Goals as goal

pub returns-then-stops-ne0-clause-within : goal.returns-then-stops-ne0-clause-within
returns-then-stops-ne0-clause-within c =
    let inv = c.loop-len.invariant in
    (block-front c.args.text.now c.loop-len.len c.block_stops-stops.result _ (omega (arith, inv.within, c.loop-len-test.true)) inv.front
    c.block_stops-stops.ensures (omega (arith, c.if-stops-ne0.true)) refl).within

pub returns-then-stops-ne0-clause-front : goal.returns-then-stops-ne0-clause-front
returns-then-stops-ne0-clause-front c =
    let inv = c.loop-len.invariant in
    (block-front c.args.text.now c.loop-len.len c.block_stops-stops.result _ (omega (arith, inv.within, c.loop-len-test.true)) inv.front
    c.block_stops-stops.ensures (omega (arith, c.if-stops-ne0.true)) refl).front

pub returns-then-stops-ne0-clause-end : goal.returns-then-stops-ne0-clause-end
returns-then-stops-ne0-clause-end c =
    let inv = c.loop-len.invariant in
    (block-front c.args.text.now c.loop-len.len c.block_stops-stops.result _ (omega (arith, inv.within, c.loop-len-test.true)) inv.front
    c.block_stops-stops.ensures (omega (arith, c.if-stops-ne0.true)) refl).end

pub loop-len-preserved : goal.loop-len-preserved
loop-len-preserved c =
    let text = c.args.text.now in
    let inv = c.loop-len.invariant in
    record {
      within = omega (arith, inv.within, c.loop-len-test.true);
      front =
          front-more text c.loop-len.len 16 inv.front
          (no-stops (take 16 (drop c.loop-len.len text)) (sym c.block_stops-stops.ensures ∙ c.if-stops-ne0.false));
    }

pub returns-clause-front : goal.returns-clause-front
returns-clause-front c =
    let text = c.args.text.now in
    let len = c.loop-len.len in
    front-more text len c.near_len.result c.loop-len.invariant.front
    (ap (λ xs. list_all is_name_byte (take c.near_len.result xs)) (sym (take_rest text len)) ∙ c.near_len.ensures.front)
