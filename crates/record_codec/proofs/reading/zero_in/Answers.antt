use Rattle.record_codec.specs.Faults.{is_zero}
use Rattle.record_codec.proofs.FaultLemmas.{position_or_all}
use Rattle.record_codec.proofs.reading.zero_in.Goals as goal

pub returns : goal.returns
returns c = rw (c.unwrap_or.ensures, c.zero_position.ensures) (position_or_all is_zero c.args.bytes.now)
