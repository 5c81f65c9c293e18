use Rattle.std.proofs.Common.{sym, ◌∙◌, refl}
use Rattle.std.proofs.lemmas.Bool.{eqb-true}
use Rattle.record_codec.specs.Reads.{name_of}
use Rattle.record_codec.proofs.FaultLemmas.{name_of-empty}
use Rattle.record_codec.proofs.reading.name_in_field.Goals as goal

pub returns-then-is_empty : goal.returns-then-is_empty
returns-then-is_empty c = sym (name_of-empty c.args.field.now (eqb-true _ _ (sym c.is_empty.ensures ∙ c.if-is_empty.true)))

pub returns : goal.returns
unfolding name_of
returns c = rw (sym c.is_empty.ensures ∙ c.if-is_empty.false, c.zero_at.ensures) refl
