use Rattle.std.proofs.Common.{◌∙◌, ap, sym}
use Rattle.std.specs.List.{list_all}
use Rattle.tree_paths.specs.Paths.{names_of, is_in_place}
use Rattle.tree_paths.proofs.SlashedLemmas.{IsSlashed-names, shape-fits, shape-len}
use Rattle.tree_paths.proofs.path_text.PathText.rewritten.Goals as goal

pub squeezed-requires-clause-slashed : goal.squeezed-requires-clause-slashed
squeezed-requires-clause-slashed c =
    IsSlashed-names c.args.text.now c.requires.path (sym (shape-fits (names_of c.args.text.now) c.args.shape c.requires.shape) ∙ c.if-not-shape.false)

pub squeezed-requires-clause-len : goal.squeezed-requires-clause-len
squeezed-requires-clause-len c = shape-len (names_of c.args.text.now) c.args.shape c.requires.shape

pub returns-then-not-shape-clause-sound : goal.returns-then-not-shape-clause-sound
returns-then-not-shape-clause-sound c =
    ap (list_all is_in_place) c.in_ok-names_in.ensures ∙ sym (shape-fits (names_of c.args.text.now) c.args.shape c.requires.shape)
    ∙ c.if-not-shape.true
