use Rattle.std.proofs.Common.{Ok, ap, sym, ◌∙◌}
use Rattle.tree_paths.proofs.PlainLemmas.{plain-path}
use Rattle.tree_paths.proofs.path.Path.parse.Goals as goal

pub few-requires-clause-slashed : goal.few-requires-clause-slashed
few-requires-clause-slashed c = (plain-path c.args.text.now (sym c.is_plain.ensures ∙ c.if-is_plain.true)).slashed

pub few-requires-clause-short : goal.few-requires-clause-short
few-requires-clause-short c = (plain-path c.args.text.now (sym c.is_plain.ensures ∙ c.if-is_plain.true)).short

pub returns-then-is_plain-clause-ok : goal.returns-then-is_plain-clause-ok
returns-then-is_plain-clause-ok c =
    (plain-path c.args.text.now (sym c.is_plain.ensures ∙ c.if-is_plain.true)).path ∙ ap Ok (sym c.few.ensures.kept)

pub returns-then-is_plain-clause-refused : goal.returns-then-is_plain-clause-refused
returns-then-is_plain-clause-refused c =
    rw ((plain-path c.args.text.now (sym c.is_plain.ensures ∙ c.if-is_plain.true)).path) tt
