use Rattle.std.proofs.Common.{◌∷◌, ap, sym, refl}
use Rattle.std.specs.Prelude.{fold}
use Rattle.event_queue.specs.Backlogs.{after_offer}
use Rattle.instance_table.specs.declared.instance.Instance.{Instance}
use Rattle.instance_table.specs.Heard.{delivered_all, with_event}
use Rattle.instance_table.proofs.Heard.{run-delivered}
use Rattle.instance_table.proofs.Indexed.{NotesEveryWatch-kept, events-at, instances_of-changed, there, unchanged}
use Rattle.instance_table.proofs.instances.Instances.deliver_to.Goals as goal

pub returns-in_default-clause-delivered : goal.returns-in_default-clause-delivered
returns-in_default-clause-delivered c =
    ap (λ m. delivered_all m c.args.events.now.items)
    (unchanged c.self.inside c.self.invariant c.args.first.id c.deref.result.now c.deref.ensures.value c.in_default.field-0
    c.in_default.ensures c.args.self.now c.self.view_is (with_event c.args.first))

pub invariant_of-self : goal.invariant_of-self
invariant_of-self c =
    let row = c.index_mut.result.now in
    let was = there c.self.inside c.self.invariant c.args.first.id c.deref.result.now c.deref.ensures.value c.in-Ok.index
    c.in-Ok.ensures row c.index_mut.ensures.value in
    NotesEveryWatch-kept c.self.inside c.self.invariant c.args.first.id c.deref.result.now c.deref.ensures.value c.in-Ok.index
    c.in-Ok.ensures row c.index_mut.ensures.value (record row.instance { queue = c.offer_run.new.queue }) refl
    (c.offer_run.ensures.events (events-at c.self.inside c.self.invariant c.args.first.id row.instance was))

pub returns-clause-delivered : goal.returns-clause-delivered
returns-clause-delivered c =
    let row = c.index_mut.result.now in
    let run = c.offer_run.ensures.queue in
    let change : Instance → Instance = (λ i. record i { queue = fold after_offer i.queue run.0 }) in
    run-delivered c.args.self.now _ c.args.first.id run.0 (c.args.first ∷ c.args.events.now.items) c.offer_run.new.events.items run.1
    (instances_of-changed c.self.inside c.self.invariant c.args.first.id c.deref.result.now c.deref.ensures.value c.in-Ok.index
    c.in-Ok.ensures row c.index_mut.ensures.value (record row.instance { queue = c.offer_run.new.queue }) c.args.self.now
    c.self.view_is change (ap (λ q. record row.instance { queue = q }) (sym run.2)))
