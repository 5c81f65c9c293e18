use Rattle.std.proofs.Common.{ap, ◌∙◌}
use Rattle.instance_table.specs.Heard.{ended_all}
use Rattle.instance_table.proofs.Heard.{delivered-told}
use Rattle.instance_table.proofs.instances.Instances.deliver.Goals as goal

pub returns : goal.returns
returns c =
    c.end_each.ensures ∙ ap (ended_all c.deliver_each.new.self) c.deref.ensures.value
    ∙ ap (λ m. ended_all m c.args.staging.now.staged.drops.items) c.deliver_each.ensures
    ∙ delivered-told c.args.staging.now c.args.self.now c.args.notices.now c.requires
