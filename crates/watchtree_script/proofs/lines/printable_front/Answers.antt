use Rattle.std.proofs.Common.{◌≡◌, ◌<◌, ◌==◌, ◌∙◌, ap, sym, length, take, get_or, arith}
use Rattle.std.proofs.lemmas.Bool.{ne_eqb}
use Rattle.watchtree_script.specs.Words.{is_escaped}
use Rattle.watchtree_script.proofs.LineLemmas.{ends-escaped, ends-unescaped, escaped-front, front_len, front-within, unescaped-front}
use Rattle.watchtree_script.proofs.PieceLemmas.{from-index}
use Rattle.watchtree_script.proofs.lines.printable_front.Goals as goal
use Rattle.watchtree_script.proofs.lines.printable_front.Goals.{Then-plain-bytes}
use Rattle.watchtree_script.proofs.lines.printable_front.Goals.{then-plain-bytes-via-then-plain-bytes}
use Rattle.watchtree_script.proofs.lines.printable_front.Goals.{then-plain-bytes-via-else-plain-bytes+then-bytes-plain-ne-ESCAPE}

pub returns-then-plain-bytes-clause-front : goal.returns-then-plain-bytes-clause-front
returns-then-plain-bytes-clause-front c =
    let bs = c.args.bytes.now in
    let front : c.args.plain ≡ front_len 37 bs = c.requires in
    elim c.then-plain-bytes.branch [
      | then-plain-bytes-via-then-plain-bytes w ↦
          front ∙ sym (ends-unescaped bs (λ lt. absurd (omega (arith, lt, front, w.if-plain-bytes.true))))
      | then-plain-bytes-via-else-plain-bytes+then-bytes-plain-ne-ESCAPE w ↦
          front ∙ sym (ends-unescaped bs (λ lt. ap (λ n. get_or bs n 0 == 37) (sym front)
          ∙ ne_eqb (get_or bs c.args.plain 0) 37 w.if-bytes-plain-ne-ESCAPE.true))
    ]

pub returns-then-plain-bytes-clause-escape : goal.returns-then-plain-bytes-clause-escape
returns-then-plain-bytes-clause-escape c =
    let bs = c.args.bytes.now in
    sym (ap (λ n. is_escaped (take n bs)) c.requires ∙ unescaped-front bs)

pub returns-clause-front : goal.returns-clause-front
returns-clause-front c =
    let bs = c.args.bytes.now in
    let n = c.args.plain in
    escaped-front bs n c.front_len.result c.requires (c.front_len.ensures.front ∙ ap (front_len 10) (from-index n bs))

pub returns-clause-escape : goal.returns-clause-escape
returns-clause-escape c =
    let bs = c.args.bytes.now in
    let n = c.args.plain in
    let front : n ≡ front_len 37 bs = c.requires in
    let whole = escaped-front bs n c.front_len.result front (c.front_len.ensures.front ∙ ap (front_len 10) (from-index n bs)) in
    let inside : front_len 37 bs < length bs = omega (arith, front, front-within 37 bs, c.if-plain-bytes.false) in
    let there : get_or bs (front_len 37 bs) 0 ≡ 37 = ap (λ m. get_or bs m 0) (sym front) ∙ c.if-bytes-plain-ne-ESCAPE.false in
    sym (ap (λ m. is_escaped (take m bs)) whole ∙ ends-escaped bs inside there)

pub bounds-bytes-plain : goal.bounds-bytes-plain
bounds-bytes-plain c =
    let within = front-within 37 c.args.bytes.now in
    omega (arith, c.requires, within, c.if-plain-bytes.false)

pub returns-then-plain-bytes-clause-within : goal.returns-then-plain-bytes-clause-within
returns-then-plain-bytes-clause-within c = omega (arith, c.requires, front-within 37 c.args.bytes.now)
