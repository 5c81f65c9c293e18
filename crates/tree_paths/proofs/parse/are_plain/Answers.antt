use Rattle.std.proofs.Common.{sym, ◌∙◌}
use Rattle.tree_paths.proofs.PlainLemmas.{plain-begun, plain-step, plain-stop, plain-end}
use Rattle.tree_paths.proofs.parse.are_plain.Goals as goal

pub loop-b-init : goal.loop-b-init
loop-b-init c = plain-begun c.args.text.now

pub loop-b-preserved : goal.loop-b-preserved
loop-b-preserved c =
    c.loop-b.invariant ∙ plain-step c.loop-b.begins c.args.text.now c.loop-b.b-index c.loop-b-test.true
    (sym c.is_special.ensures ∙ c.if-is_special.false)

pub returns-then-is_special : goal.returns-then-is_special
returns-then-is_special c =
    sym (c.loop-b.invariant ∙ plain-stop c.loop-b.begins c.args.text.now c.loop-b.b-index c.loop-b-test.true
    (sym c.is_special.ensures ∙ c.if-is_special.true))

pub returns : goal.returns
returns c = sym (c.loop-b.invariant ∙ plain-end c.loop-b.begins c.args.text.now c.loop-b.b-index c.loop-b-test.false)
