use Rattle.std.proofs.Common.{◌≡◌, ◌<◌, ◌-◌, false, ◌&&◌, ltb, eqb, length, get_or, sym, ◌∙◌}
use Rattle.std.proofs.lemmas.Bool.{ne_eqb}
use Rattle.tree_paths.proofs.FrontLemmas.{text_answer, no_end, no_more, some_by}
use Rattle.tree_paths.proofs.parse.shape_of_text.Goals as goal
use Rattle.tree_paths.proofs.parse.shape_of_text.Goals.{else-text-gt1-via-then-text-gt1+else-text-eq-SEPARATOR, else-text-gt1-via-else-text-gt1}

pub returns : goal.returns
returns c =
    let text = c.args.text.now in
    let some : 0 < length text = some_by text (sym c.is_empty.ensures ∙ c.if-is_empty.false) in
    let ends : (ltb 1 (length text) && eqb (get_or text (length text - 1) 0) 47) ≡ false = elim c.else-text-gt1.branch [
      | else-text-gt1-via-then-text-gt1+else-text-eq-SEPARATOR w ↦ no_end text (ne_eqb (get_or text (length text - 1) 0) 47 w.if-text-eq-SEPARATOR.false)
      | else-text-gt1-via-else-text-gt1 w ↦ no_more text w.if-text-gt1.false
    ] in
    let both = text_answer text c.shape_between.result some c.if-text-ge-PATH_MAX.false c.if-text-ne-SEPARATOR.false ends c.shape_between.ensures in
    record { answer = both.answer; shape = both.shape }
