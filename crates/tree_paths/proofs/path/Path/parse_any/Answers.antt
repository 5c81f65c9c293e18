use Rattle.std.proofs.Common.{◌∙◌, subst, sym}
use Rattle.tree_paths.specs.PathText.{IsSlashed}
use Rattle.tree_paths.specs.Paths.{names_of}
use Rattle.tree_paths.proofs.SlashedLemmas.{IsSlashed-plain, shape-fits, shape-len}
use Rattle.tree_paths.proofs.path.Path.parse_any.Goals as goal

pub invariant_of-result-then-text-gt-SHORT_MAX : goal.invariant_of-result-then-text-gt-SHORT_MAX
invariant_of-result-then-text-gt-SHORT_MAX c =
    let names = names_of c.args.text.now in
    let shape = c.in_ok-shape.shape in
    subst IsSlashed (sym c.in_ok-from_slice.ensures.items)
    (IsSlashed-plain c.args.text.now c.in_ok-shape.ensures.answer (sym (shape-fits names shape c.in_ok-shape.ensures.shape) ∙ c.if-not-shape.false)
    (sym (shape-len names shape c.in_ok-shape.ensures.shape) ∙ c.if-shape-text.false))

pub short-requires-clause-slashed : goal.short-requires-clause-slashed
short-requires-clause-slashed c =
    let names = names_of c.args.text.now in
    let shape = c.in_ok-shape.shape in
    IsSlashed-plain c.args.text.now c.in_ok-shape.ensures.answer (sym (shape-fits names shape c.in_ok-shape.ensures.shape) ∙ c.if-not-shape.false)
    (sym (shape-len names shape c.in_ok-shape.ensures.shape) ∙ c.if-shape-text.false)
