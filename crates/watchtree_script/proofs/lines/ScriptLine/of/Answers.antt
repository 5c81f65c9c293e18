use Rattle.std.proofs.Common.{◌∙◌, ◌==◌, ◌||◌, ap, length, take}
use Rattle.watchtree_script.specs.Words.{is_escaped}
use Rattle.watchtree_script.proofs.LineLemmas.{all-escaped, all-printable}
use Rattle.watchtree_script.proofs.PieceLemmas.{from-index}
use Rattle.watchtree_script.proofs.lines.ScriptLine.of.Goals as goal

pub returns-clause-printable : goal.returns-clause-printable
returns-clause-printable c =
    let bs = c.args.bytes.now in
    ap (λ n. n == length bs) c.printable_front-front.ensures.front ∙ all-printable bs

pub returns-clause-escape : goal.returns-clause-escape
returns-clause-escape c =
    let bs = c.args.bytes.now in
    let n = c.printable_front-front.result.len in
    ap (λ t. t || c.has_escape.result) c.printable_front-front.ensures.escape
    ∙ ap (λ t. is_escaped (take n bs) || t) (c.has_escape.ensures ∙ ap is_escaped (from-index n bs)) ∙ all-escaped n bs
