use Rattle.std.proofs.Common.{Fits, [], arith, length, length-append, rules, subst, sym, take, w64, ◌++◌, ◌+◌, ◌<◌, ◌∷◌, ◌≤◌}
use Rattle.std.proofs.lemmas.List.{length-take-le}
use Rattle.tree_paths.proofs.StopLemmas.{block-joined, last-joined, end-joined, marked-whole, stops-fit}
use Rattle.tree_paths.proofs.stops.stops_by.Goals as goal

pub overflow_add-stops : goal.overflow_add-stops
overflow_add-stops g c =
    let text = c.args.text.now in
    let seen = c.loop-seen.seen in
    let inv = c.loop-seen.invariant in
    let within : seen + g.row.N ≤ length text = omega (arith, inv.within, c.if-len-seen.true) in
    let few : seen + g.row.N ≤ 64 = inv.few in
    let e = block-joined text seen g.row.N c.loop-seen.stops c.block_stops.result within few inv.is c.block_stops.ensures in
    subst (Fits w64) (sym e) (stops-fit (take (seen + g.row.N) text) (omega (arith, few, length-take-le (seen + g.row.N) text within)))

pub loop-seen-preserved : goal.loop-seen-preserved
loop-seen-preserved g c =
    let text = c.args.text.now in
    let seen = c.loop-seen.seen in
    let inv = c.loop-seen.invariant in
    let within : seen + g.row.N ≤ length text = omega (arith, inv.within, c.if-len-seen.true) in
    record {
      within = within;
      few = c.loop-seen-test.true;
      is = block-joined text seen g.row.N c.loop-seen.stops c.block_stops.result within inv.few inv.is c.block_stops.ensures;
    }

pub overflow_add-result : goal.overflow_add-result
overflow_add-result g c =
    let text = c.args.text.now in
    let seen = c.loop-seen.seen in
    let inv = c.loop-seen.invariant in
    let few : length text < 64 = omega (arith, inv.within, inv.few, c.if-len-seen-2.false) in
    let e =
    last-joined text seen g.row.N c.loop-seen.stops c.block_stops-2.result inv.within c.requires.long c.if-len-seen-2.false (omega (arith, few)) inv.is
    c.block_stops-2.ensures in
    subst (Fits w64) (sym e) (stops-fit text (omega (arith, few)))

pub overflow_add-result-2 : goal.overflow_add-result-2
overflow_add-result-2 g c =
    let text = c.args.text.now in
    let seen = c.loop-seen.seen in
    let inv = c.loop-seen.invariant in
    let few : length text < 64 = omega (arith, inv.within, inv.few, c.if-len-seen-2.false) in
    let e =
    last-joined text seen g.row.N c.loop-seen.stops c.block_stops-2.result inv.within c.requires.long c.if-len-seen-2.false (omega (arith, few)) inv.is
    c.block_stops-2.ensures in
    subst (Fits w64) (sym (end-joined text _ few e)) (stops-fit (text ++ 47 ∷ []) (omega (arith, few, length-append text (47 ∷ []))))

pub returns : goal.returns
returns g c =
    let text = c.args.text.now in
    let seen = c.loop-seen.seen in
    let inv = c.loop-seen.invariant in
    let few : length text < 64 = omega (arith, inv.within, inv.few, c.if-len-seen-2.false) in
    let e =
    last-joined text seen g.row.N c.loop-seen.stops c.block_stops-2.result inv.within c.requires.long c.if-len-seen-2.false (omega (arith, few)) inv.is
    c.block_stops-2.ensures in
    marked-whole text _ few (end-joined text _ few e)

pub loop-seen-init : goal.loop-seen-init
loop-seen-init c = search rules
