use Rattle.std.proofs.Common.{◌∙◌, ap, sym, take}
use Rattle.std.specs.List.{list_all}
use Rattle.watchtree_script.specs.Lines.{is_line_byte}
use Rattle.watchtree_script.specs.Words.{is_escaped}
use Rattle.watchtree_script.proofs.LineLemmas.{plain-front, unescaped-front}
use Rattle.watchtree_script.proofs.lines.Lines.next_line.Goals as goal

pub cut_printable-requires-clause-front : goal.cut_printable-requires-clause-front
cut_printable-requires-clause-front c =
    let bs = c.in_ok-bytes.bytes.now in
    ap (λ n. list_all is_line_byte (take n bs)) c.front_len-plain.ensures.front ∙ plain-front bs

pub returns-then-plain-bytes-clause-printable : goal.returns-then-plain-bytes-clause-printable
returns-then-plain-bytes-clause-printable c =
    let bs = c.in_ok-bytes.bytes.now in
    sym (ap (list_all is_line_byte) c.cut_printable.ensures.line
    ∙ ap (λ n. list_all is_line_byte (take n bs)) c.front_len-plain.ensures.front ∙ plain-front bs)

pub returns-then-plain-bytes-clause-escape : goal.returns-then-plain-bytes-clause-escape
returns-then-plain-bytes-clause-escape c =
    let bs = c.in_ok-bytes.bytes.now in
    sym (ap is_escaped c.cut_printable.ensures.line
    ∙ ap (λ n. is_escaped (take n bs)) c.front_len-plain.ensures.front ∙ unescaped-front bs)
