use Rattle.std.proofs.Common.{List, ℕ, ◌++◌, ap, sym, ◌∙◌}
use Rattle.std.proofs.lemmas.Fmt.{decimal_digit}
use Rattle.record_codec.proofs.lines.add_number.Goals as goal

pub returns-then-number-lt10-clause-items : goal.returns-then-number-lt10-clause-items
returns-then-number-lt10-clause-items c =
    c.push_reserved.ensures.items ∙ ap (λ (t : List ℕ). c.args.out.now.items ++ t) (sym (decimal_digit c.args.number c.if-number-lt10.true))
