use Rattle.std.proofs.Common.{◌∙◌, ap, sym, take}
use Rattle.std.specs.List.{list_all}
use Rattle.watchtree_script.specs.Lines.{is_line_byte}
use Rattle.watchtree_script.proofs.LineLemmas.{front-passes}
use Rattle.watchtree_script.proofs.lines.first_line.Goals as goal

pub cut_printable-requires-clause-front : goal.cut_printable-requires-clause-front
cut_printable-requires-clause-front c =
    let bs = c.args.bytes.now in
    ap (λ n. list_all is_line_byte (take n bs)) c.printable_front-len.ensures.front ∙ front-passes bs

pub returns-then-len-bytes-clause-printable : goal.returns-then-len-bytes-clause-printable
returns-then-len-bytes-clause-printable c =
    let bs = c.args.bytes.now in
    sym (ap (list_all is_line_byte) c.cut_printable.ensures.line
    ∙ ap (λ n. list_all is_line_byte (take n bs)) c.printable_front-len.ensures.front ∙ front-passes bs)
