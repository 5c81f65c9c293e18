use Rattle.event_sinks.proofs.Agreeing.{audits-agree}
use Rattle.event_sinks.proofs.laws.audits_agree.Goals as goal

pub returns : goal.returns
returns c = audits-agree
