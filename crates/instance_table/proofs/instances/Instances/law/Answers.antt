use Rattle.std.proofs.Common.{subst}
use Rattle.instance_table.specs.Instances.{WaitingAreEvents}
use Rattle.instance_table.proofs.instances.Instances.law.Goals as goal

pub returns : goal.returns
returns c = subst WaitingAreEvents c.self.view_is c.self.invariant.records
