use Rattle.std.proofs.Common.{sym, ◌∙◌, arith}
use Rattle.std.proofs.lemmas.List.{take_all}
use Rattle.record_codec.proofs.padded.in_registers.Goals as goal

pub returns : goal.returns
returns c = sym (take_all 30 c.copy_part-5.new.bytes (omega arith)) ∙ c.copy_part-5.ensures ∙ take_all 30 c.args.from.now (omega arith)
