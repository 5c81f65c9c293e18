use Rattle.std.proofs.Common.{ap, sym, ◌∙◌}
use Rattle.instance_table.specs.Instances.{instance_of}
use Rattle.instance_table.proofs.Indexed.{absent, there}
use Rattle.instance_table.proofs.instances.Instances.get_next.Goals as goal

pub returns-in_default : goal.returns-in_default
returns-in_default c =
    sym (ap (λ m. instance_of m c.args.id) (sym c.self.view_is)
    ∙ absent c.self.inside c.self.invariant c.args.id c.deref.result.now c.deref.ensures.value c.in_default.field-0 c.in_default.ensures)

pub returns : goal.returns
returns c =
    sym (there c.self.inside c.self.invariant c.args.id c.deref.result.now c.deref.ensures.value c.in-Ok.index c.in-Ok.ensures
    c.index.result.now c.index.ensures)
    ∙ ap (λ m. instance_of m c.args.id) c.self.view_is
