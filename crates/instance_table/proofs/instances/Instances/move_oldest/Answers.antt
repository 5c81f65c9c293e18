use Rattle.std.proofs.Common.{◌≡◌, ◌++◌, append-nil, ap, sym, ◌∙◌, subst, refl, [], Some, None, take}
use Rattle.std.proofs.Math.Seq.{take-nil}
use Rattle.record_codec.specs.Records.{AreEvents}
use Rattle.instance_table.specs.Instances.{after_read, instance_of, waiting_of}
use Rattle.instance_table.proofs.Waiting.{events-drop}
use Rattle.instance_table.proofs.Indexed.{NotesEveryWatch-kept, absent, events-at, instances_of-changed, there, unchanged}
use Rattle.instance_table.proofs.instances.Instances.move_oldest.Goals as goal

pub returns-in_default-clause-instances : goal.returns-in_default-clause-instances
returns-in_default-clause-instances c =
    unchanged c.self.inside c.self.invariant c.args.id c.deref.result.now c.deref.ensures.value c.in_default.field-0
    c.in_default.ensures c.args.self.now c.self.view_is (after_read c.args.count)

pub returns-in_default-clause-records : goal.returns-in_default-clause-records
returns-in_default-clause-records c =
    let none : instance_of c.args.self.now c.args.id ≡ None =
    ap (λ m. instance_of m c.args.id) (sym c.self.view_is)
    ∙ absent c.self.inside c.self.invariant c.args.id c.deref.result.now c.deref.ensures.value c.in_default.field-0 c.in_default.ensures in
    let nothing : take c.args.count (waiting_of (instance_of c.args.self.now c.args.id)) ≡ [] =
    ap (λ o. take c.args.count (waiting_of o)) none ∙ take-nil c.args.count in
    sym (ap (λ es. c.args.records.now.items ++ es) nothing ∙ append-nil c.args.records.now.items)

pub invariant_of-self : goal.invariant_of-self
invariant_of-self c =
    let a = c.self.inside in
    let row = c.index_mut.result.now in
    let was = there a c.self.invariant c.args.id c.deref.result.now c.deref.ensures.value c.in-Ok.found c.in-Ok.ensures row c.index_mut.ensures.value in
    NotesEveryWatch-kept a c.self.invariant c.args.id c.deref.result.now c.deref.ensures.value c.in-Ok.found c.in-Ok.ensures row
    c.index_mut.ensures.value (record row.instance { queue = c.move_oldest.new.queue }) refl
    (subst (λ q. AreEvents q.waiting) (sym c.move_oldest.ensures.queue)
    (events-drop c.args.count row.instance.queue.waiting (events-at a c.self.invariant c.args.id row.instance was)))

pub returns-clause-instances : goal.returns-clause-instances
returns-clause-instances c =
    let row = c.index_mut.result.now in
    instances_of-changed c.self.inside c.self.invariant c.args.id c.deref.result.now c.deref.ensures.value c.in-Ok.found c.in-Ok.ensures
    row c.index_mut.ensures.value (record row.instance { queue = c.move_oldest.new.queue }) c.args.self.now c.self.view_is
    (after_read c.args.count) (ap (λ q. record row.instance { queue = q }) (sym c.move_oldest.ensures.queue))

pub returns-clause-records : goal.returns-clause-records
returns-clause-records c =
    let row = c.index_mut.result.now in
    let was : instance_of c.args.self.now c.args.id ≡ Some row.instance =
    ap (λ m. instance_of m c.args.id) (sym c.self.view_is)
    ∙ there c.self.inside c.self.invariant c.args.id c.deref.result.now c.deref.ensures.value c.in-Ok.found c.in-Ok.ensures row c.index_mut.ensures.value in
    c.move_oldest.ensures.records ∙ ap (λ o. c.args.records.now.items ++ take c.args.count (waiting_of o)) (sym was)
