use Rattle.std.proofs.Common.{ℕ, List, length, not, refl, subst, ap, ◌∙◌, arith}
use Rattle.std.proofs.lemmas.Option.{slice_get_within}
use Rattle.std.specs.Prelude.{Some}
use Rattle.tree_core.specs.Journal.{now}
use Rattle.shared_tree.specs.Held.{IsFilled}
use Rattle.shared_tree.specs.PipeEnds.{PipesState}
use Rattle.shared_tree.proofs.Keeping.{in-at, waiting-none, waiting-some}
use Rattle.shared_tree.proofs.pipes.Pipes.look_for.Goals as goal

pub returns-then-is_none-clause-ok : goal.returns-then-is_none-clause-ok
returns-then-is_none-clause-ok c =
    λ some.
    absurd
    (waiting-none (now c.args.core.now) c.args.instance c.waiting.result c.waiting.ensures
    (c.is_none.ensures ∙ ap not c.if-is_none.true) some)

pub is_full_at-requires : goal.is_full_at-requires
is_full_at-requires c =
    let within = slice_get_within c.as_slice.result.now c.in-Some.at c.args.instance c.in-Some.ensures in
    let same = ap (λ (ns : List ℕ). length ns) c.as_slice.ensures.value in
    omega (arith, within, same, c.self.invariant.1)

pub returns-then-is_full_at-clause-err : goal.returns-then-is_full_at-clause-err
returns-then-is_full_at-clause-err c =
    let t = now c.args.core.now in
    let there = waiting-some t c.args.instance c.waiting.result c.waiting.ensures (c.is_none.ensures ∙ ap not c.if-is_none.false) in
    let filled : IsFilled c.as_slice.result.now t (Some c.args.instance) =
    (there.0, there.1, in-at c.as_slice.result.now c.in-Some.at c.args.instance c.in-Some.ensures)
    in
    (refl, subst (λ (ns : List ℕ). IsFilled ns t (Some c.args.instance)) (c.as_slice.ensures.value ∙ ap (λ (p : PipesState). p.numbers) c.self.view_is) filled)
