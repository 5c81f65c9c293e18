use Rattle.std.proofs.Common.{List, ℕ, sym, ap, ◌∙◌}
use Rattle.tree_paths.specs.Paths.{is_below}
use Rattle.tree_paths.proofs.BelowLemmas.{apart-by, below-apart, below-end, below-root, below-step}
use Rattle.tree_paths.proofs.path.are_below.Goals as goal

pub returns-in_default : goal.returns-in_default
returns-in_default c =
    below-root c.loop-front.names c.is_empty.result c.is_empty.ensures
    ∙ sym (c.loop-front.invariant ∙ ap (λ (above : List (List ℕ)). is_below c.loop-front.names above) c.in_default.ensures.0)

pub returns-in_default-next : goal.returns-in_default-next
returns-in_default-next c =
    sym (c.loop-front.invariant ∙ (λ i. is_below (c.in_default-next.ensures.0 i) (c.in-Some.ensures i)) ∙ below-end c.in-Some.front c.next.new.self)

pub returns-then-ne : goal.returns-then-ne
returns-then-ne c =
    sym (c.loop-front.invariant ∙ (λ i. is_below (c.in-Some-next.ensures i) (c.in-Some.ensures i))
    ∙ below-apart c.in-Some-next.name c.in-Some.front c.next-in-loop-front.new.self c.next.new.self
    (apart-by c.in-Some-next.name c.in-Some.front c.as_name.result.now c.as_name-in-loop-front.result.now c.ne.result
    c.as_name.ensures c.as_name-in-loop-front.ensures c.ne.ensures c.if-ne.true))

pub loop-front-preserved-else-ne : goal.loop-front-preserved-else-ne
loop-front-preserved-else-ne c =
    below-step c.args.names c.args.above c.loop-front.names c.loop-front.above c.next-in-loop-front.new.self c.next.new.self c.in-Some-next.name c.in-Some.front
    c.as_name.result.now c.as_name-in-loop-front.result.now c.ne.result c.loop-front.invariant c.in-Some-next.ensures
    c.in-Some.ensures c.as_name.ensures c.as_name-in-loop-front.ensures c.ne.ensures c.if-ne.false

pub loop-front-preserved : goal.loop-front-preserved
loop-front-preserved c =
    below-step c.args.names c.args.above c.loop-front.names c.loop-front.above c.next-in-loop-front.new.self c.next.new.self c.in-Some-next.name c.in-Some.front
    c.as_name.result.now c.as_name-in-loop-front.result.now c.ne.result c.loop-front.invariant c.in-Some-next.ensures
    c.in-Some.ensures c.as_name.ensures c.as_name-in-loop-front.ensures c.ne.ensures c.if-ne.false
