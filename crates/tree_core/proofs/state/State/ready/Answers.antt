use Rattle.std.proofs.Common.{◌++◌, ap, ◌∙◌, length, take, drop}
use Rattle.instance_table.specs.Ready.{ready_in}
use Rattle.tree_core.specs.Journal.{Journaled, now}
use Rattle.tree_core.specs.Tree.{Tree}
use Rattle.tree_core.proofs.state.State.ready.Goals as goal

pub returns : goal.returns
returns c =
    let out = c.args.out.now in
    let is = ap (λ (t : Tree). ready_in t.instances) c.self.invariant.stands ∙ ap (λ (s : Journaled). ready_in (now s).instances) c.self.view_is in
    record { count = c.ready.ensures.count ∙ ap length is; ids = c.ready.ensures.ids ∙ ap (λ ids. take (length out) ids ++ drop (length ids) out) is }
