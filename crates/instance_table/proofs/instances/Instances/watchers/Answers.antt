use Rattle.std.proofs.Common.{ap, ◌∙◌}
use Rattle.instance_table.specs.Instances.{watchers_of}
use Rattle.instance_table.proofs.WhoWatches.{watchers-noted}
use Rattle.instance_table.proofs.instances.Instances.watchers.Goals as goal

pub returns : goal.returns
returns c = c.of.ensures ∙ watchers-noted c.self.inside c.self.invariant c.args.number ∙ ap (λ m. watchers_of m c.args.number) c.self.view_is
