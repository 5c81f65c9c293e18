use Rattle.tree_core.proofs.Untouched.{unmade_hear_nothing, closed_hear_nothing}
use Rattle.tree_core.proofs.queue_laws.closed_instances_hear_nothing.Goals as goal

pub returns : goal.returns
returns c = record { unmade = unmade_hear_nothing; closed = closed_hear_nothing }
