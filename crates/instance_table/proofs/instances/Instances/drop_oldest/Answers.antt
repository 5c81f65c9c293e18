use Rattle.std.proofs.Common.{ap, sym, subst, refl}
use Rattle.record_codec.specs.Records.{AreEvents}
use Rattle.instance_table.specs.Instances.{after_read}
use Rattle.instance_table.proofs.Waiting.{events-drop}
use Rattle.instance_table.proofs.Indexed.{NotesEveryWatch-kept, events-at, instances_of-changed, there, unchanged}
use Rattle.instance_table.proofs.instances.Instances.drop_oldest.Goals as goal

pub returns-in_default : goal.returns-in_default
returns-in_default c =
    unchanged c.self.inside c.self.invariant c.args.id c.deref.result.now c.deref.ensures.value c.in_default.field-0
    c.in_default.ensures c.args.self.now c.self.view_is (after_read c.args.count)

pub invariant_of-self : goal.invariant_of-self
invariant_of-self c =
    let a = c.self.inside in
    let row = c.index_mut.result.now in
    let was = there a c.self.invariant c.args.id c.deref.result.now c.deref.ensures.value c.in-Ok.found c.in-Ok.ensures row c.index_mut.ensures.value in
    NotesEveryWatch-kept a c.self.invariant c.args.id c.deref.result.now c.deref.ensures.value c.in-Ok.found c.in-Ok.ensures row
    c.index_mut.ensures.value (record row.instance { queue = c.drop_oldest.new.self }) refl
    (subst (λ q. AreEvents q.waiting) (sym c.drop_oldest.ensures)
    (events-drop c.args.count row.instance.queue.waiting (events-at a c.self.invariant c.args.id row.instance was)))

pub returns : goal.returns
returns c =
    let row = c.index_mut.result.now in
    instances_of-changed c.self.inside c.self.invariant c.args.id c.deref.result.now c.deref.ensures.value c.in-Ok.found c.in-Ok.ensures
    row c.index_mut.ensures.value (record row.instance { queue = c.drop_oldest.new.self }) c.args.self.now c.self.view_is
    (after_read c.args.count) (ap (λ q. record row.instance { queue = q }) (sym c.drop_oldest.ensures))
