use Rattle.record_codec.proofs.DecodeLemmas.{one_spelling}
use Rattle.record_codec.proofs.laws.spellings_are_one.Goals as goal

pub returns : goal.returns
returns c = λ es fs first second same. one_spelling fs es second first same
