use Rattle.std.proofs.Common.{rules}
use Rattle.record_codec.proofs.name_buf.NameBuf.copy.Goals as goal

pub returns-in-Short-clause-kept : goal.returns-in-Short-clause-kept
returns-in-Short-clause-kept c = search rules

pub returns-in-Short-clause-sound : goal.returns-in-Short-clause-sound
returns-in-Short-clause-sound c = search rules
