use Rattle.std.proofs.Common.{◌++◌, length, take, drop, ap, ◌∙◌}
use Rattle.instance_table.specs.Opened.{ready_rows}
use Rattle.instance_table.specs.Ready.{ready_in}
use Rattle.instance_table.proofs.Readied.{ready-opened}
use Rattle.instance_table.proofs.instances.Instances.ready.Goals as goal

pub returns : goal.returns
returns c =
    let out = c.args.out.now in
    let is = ap ready_rows c.as_slice.ensures.value ∙ ready-opened c.self.inside c.self.invariant ∙ ap ready_in c.self.view_is in
    record { count = c.ready_rows.ensures.count ∙ ap length is; ids = c.ready_rows.ensures.ids ∙ ap (λ ids. take (length out) ids ++ drop (length ids) out) is }
