use Rattle.std.proofs.Common.{◌≡◌, ◌≢◌, ℕ, List, Some, ap, sym, ◌∙◌}
use Rattle.std.specs.Prelude.{option_map}
use Rattle.tree_core.proofs.PathsFound.{row-here, row-past}
use Rattle.tree_core.proofs.state.paths.first_of.Goals as goal

pub returns-then-from-number-clause-ok : goal.returns-then-from-number-clause-ok
returns-then-from-number-clause-ok c =
    let row = c.loop-path-item.result in
    let same : row.1 ≡ c.args.number = sym c.from.ensures ∙ c.if-from-number.true in
    ap (λ p. Some p) c.in_ok-copy.ensures.ok
    ∙ ap (option_map (λ (e : List (List ℕ) × ℕ). e.0))
    (sym (row-here c.args.rows.now c.loop-path.path-index c.args.number row c.loop-path-test.true c.loop-path-item.is c.loop-path.invariant same))

pub loop-path-preserved : goal.loop-path-preserved
loop-path-preserved c =
    let row = c.loop-path-item.result in
    let off : row.1 ≢ c.args.number = λ same. c.if-from-number.false (c.from.ensures ∙ same) in
    row-past c.args.rows.now c.loop-path.path-index c.args.number row c.loop-path-test.true c.loop-path-item.is c.loop-path.invariant off
