use Rattle.std.proofs.Common.{ap, arith, length, rules, ◌∙◌}
use Rattle.std.specs.FinMap as finmap
use Rattle.file_watchers.specs.Watchers.{WatchMap}
use Rattle.file_watchers.proofs.Zipped.{watchers-keys}
use Rattle.file_watchers.proofs.few.Few.with.Goals as goal

pub unreachable-requires : goal.unreachable-requires
unreachable-requires g c =
    let full = c.put.ensures.full c.if-not-put.true in
    let same = ap length (ap (λ (m : WatchMap). finmap.keys m) c.of-few.ensures ∙ watchers-keys c.args.ids.now c.args.watches.now c.requires.watchers) in
    let count = c.requires.count in
    omega (arith, full, same, count)

pub returns : goal.returns
returns c = search rules
