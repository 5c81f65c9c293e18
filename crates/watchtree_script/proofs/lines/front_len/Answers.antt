use Rattle.std.proofs.Common.{◌≡◌, ◌≤◌, ◌<◌, ◌∙◌, ◌-◌, ℕ, List, ap, subst, sym, length, take, drop, arith, length-drop}
use Rattle.std.proofs.lemmas.List.{drop-drop}
use lib.Count.{count_trailing_zeros}
use Rattle.watchtree_script.specs.Reading.{stops_in}
use Rattle.watchtree_script.proofs.LineLemmas.{block-passes, block-stops, front_len, front-within}
use Rattle.watchtree_script.proofs.PieceLemmas.{from-index}
use Rattle.watchtree_script.proofs.lines.front_len.Goals as goal

stopped : (stop : ℕ) (bs : List ℕ) (n found : ℕ) → 16 ≤ length (drop n bs)
    → found ≡ stops_in stop (take 16 (take (length bs - n) (drop n bs))) → 0 < found
    → front_len stop (drop n bs) ≡ count_trailing_zeros 64 found
stopped stop bs n found long is some =
    let whole = is ∙ ap (λ t. stops_in stop (take 16 t)) (from-index n bs) in
    block-stops stop (drop n bs) long (subst (λ m. 0 < m) whole some) ∙ ap (count_trailing_zeros 64) (sym whole)

pub returns-then-stops-ne0-clause-within : goal.returns-then-stops-ne0-clause-within
returns-then-stops-ne0-clause-within c =
    let bs = c.args.bytes.now in
    let n = c.loop-len.len in
    let long : 16 ≤ length (drop n bs) = omega (arith, c.loop-len-test.true, length-drop n bs) in
    let here = stopped c.args.stop bs n c.stops_in-stops.result long c.stops_in-stops.ensures (omega (arith, c.if-stops-ne0.true)) in
    omega (arith, here, front-within c.args.stop (drop n bs), length-drop n bs, c.loop-len.invariant.0)

pub returns-then-stops-ne0-clause-front : goal.returns-then-stops-ne0-clause-front
returns-then-stops-ne0-clause-front c =
    let bs = c.args.bytes.now in
    let n = c.loop-len.len in
    let long : 16 ≤ length (drop n bs) = omega (arith, c.loop-len-test.true, length-drop n bs) in
    let here = stopped c.args.stop bs n c.stops_in-stops.result long c.stops_in-stops.ensures (omega (arith, c.if-stops-ne0.true)) in
    omega (arith, c.loop-len.invariant.1, here)

pub loop-len-preserved : goal.loop-len-preserved
loop-len-preserved c =
    let bs = c.args.bytes.now in
    let n = c.loop-len.len in
    let long : 16 ≤ length (drop n bs) = omega (arith, c.loop-len-test.true, length-drop n bs) in
    let whole = c.stops_in-stops.ensures ∙ ap (λ t. stops_in c.args.stop (take 16 t)) (from-index n bs) in
    let none : stops_in c.args.stop (take 16 (drop n bs)) ≡ 0 = sym whole ∙ omega (arith, c.if-stops-ne0.false) in
    let step = block-passes c.args.stop (drop n bs) long none in
    let behind = ap (front_len c.args.stop) (drop-drop 16 n bs) in (
      omega (arith, long, length-drop n bs),
      omega (arith, c.loop-len.invariant.1, step, behind),
    )

pub returns-clause-front : goal.returns-clause-front
returns-clause-front c =
    let bs = c.args.bytes.now in
    let here = c.near_len.ensures.front ∙ ap (front_len c.args.stop) (from-index c.loop-len.len bs) in
    omega (arith, c.loop-len.invariant.1, here)
