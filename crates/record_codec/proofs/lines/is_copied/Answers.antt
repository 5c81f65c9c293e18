use Rattle.std.proofs.Common.{sym, ◌∙◌}
use Rattle.record_codec.proofs.LineLemmas.{plain-name}
use Rattle.record_codec.proofs.lines.is_copied.Goals as goal

pub returns-then-bytes-gt-SHORT_NAME_LEN : goal.returns-then-bytes-gt-SHORT_NAME_LEN
returns-then-bytes-gt-SHORT_NAME_LEN c is = sym (plain-name c.args.bytes.now (sym c.are_plain.ensures ∙ is))
