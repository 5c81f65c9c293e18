use Rattle.tree_paths.specs.Paths.{names_of}
use Rattle.tree_paths.proofs.BelowLemmas.{none-below}
use Rattle.tree_paths.proofs.SlashedLemmas.{text-longer, slash-behind, text-below}
use Rattle.tree_paths.proofs.path.is_text_below.Goals as goal

pub returns-then-text-above : goal.returns-then-text-above
returns-then-text-above c =
    none-below (names_of c.args.text.now) (names_of c.args.above.now)
    (text-longer c.args.text.now c.args.above.now c.requires.slashed c.requires.above c.if-text-above.true)

pub returns-then-text-above-ne-SEPARATOR : goal.returns-then-text-above-ne-SEPARATOR
returns-then-text-above-ne-SEPARATOR c =
    none-below (names_of c.args.text.now) (names_of c.args.above.now)
    (λ b. c.if-text-above-ne-SEPARATOR.true (slash-behind c.args.text.now c.args.above.now c.requires.slashed c.requires.above b))

pub returns : goal.returns
returns c =
    text-below c.args.text.now c.args.above.now c.starts_with.result c.requires.slashed c.requires.above c.if-text-above.false
    c.if-text-above-ne-SEPARATOR.false (cc)
