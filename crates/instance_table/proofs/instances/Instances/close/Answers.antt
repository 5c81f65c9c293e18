use Rattle.instance_table.proofs.Indexed.{NotesEveryWatch-closed, instances_of-closed, nothing-closed}
use Rattle.instance_table.proofs.instances.Instances.close.Goals as goal

pub returns-in_default : goal.returns-in_default
returns-in_default c =
    nothing-closed c.self.inside c.self.invariant c.args.id c.deref.result.now c.deref.ensures.value c.in_default.field-0
    c.in_default.ensures c.args.self.now c.self.view_is

pub invariant_of-self : goal.invariant_of-self
invariant_of-self c =
    NotesEveryWatch-closed c.self.inside c.self.invariant c.args.id c.deref.result.now c.deref.ensures.value c.in-Ok.found
    c.in-Ok.ensures (record c.self.inside { opened = c.remove-closed.new.self; index = c.forget.new.index })
    c.remove-closed.ensures.items c.remove-closed.result c.remove-closed.ensures.value c.forget.ensures.noted
    (c.forget.ensures.rows c.self.invariant.rows)

pub returns : goal.returns
returns c =
    instances_of-closed c.self.inside c.self.invariant c.args.id c.deref.result.now c.deref.ensures.value c.in-Ok.found c.in-Ok.ensures
    (record c.self.inside { opened = c.remove-closed.new.self; index = c.forget.new.index }) c.remove-closed.ensures.items c.args.self.now c.self.view_is
