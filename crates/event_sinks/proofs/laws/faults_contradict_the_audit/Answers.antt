use Rattle.event_sinks.proofs.Agreeing.{faults_contradict}
use Rattle.event_sinks.proofs.laws.faults_contradict_the_audit.Goals as goal

pub returns : goal.returns
returns c = faults_contradict
