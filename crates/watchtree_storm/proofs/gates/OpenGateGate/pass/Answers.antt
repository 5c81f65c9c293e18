use Rattle.std.proofs.Common.{rules}
use Rattle.watchtree_storm.proofs.gates.OpenGateGate.pass.Goals as goal

pub returns : goal.returns
returns c = search rules
