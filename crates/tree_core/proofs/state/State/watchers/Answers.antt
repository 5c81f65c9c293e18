use Rattle.std.proofs.Common.{ap, ◌∙◌}
use Rattle.instance_table.specs.Instances.{watchers_of}
use Rattle.tree_core.specs.Journal.{Journaled, now}
use Rattle.tree_core.specs.Tree.{Tree}
use Rattle.tree_core.proofs.state.State.watchers.Goals as goal

pub returns : goal.returns
returns c =
    c.watchers.ensures ∙ ap (λ (t : Tree). watchers_of t.instances c.args.number) c.self.invariant.stands
    ∙ ap (λ (s : Journaled). watchers_of (now s).instances c.args.number) c.self.view_is
