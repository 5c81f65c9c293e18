use Rattle.std.proofs.Common.{ap, sym, refl}
use Rattle.event_queue.specs.Backlogs.{after_offer}
use Rattle.instance_table.proofs.Indexed.{NotesEveryWatch-kept, events-at, instances_of-changed, there, unchanged}
use Rattle.instance_table.proofs.instances.Instances.offer.Goals as goal

pub returns-in_default : goal.returns-in_default
returns-in_default c =
    unchanged c.self.inside c.self.invariant c.args.id c.deref.result.now c.deref.ensures.value c.in_default.field-0
    c.in_default.ensures c.args.self.now c.self.view_is (λ i. record i { queue = after_offer i.queue c.args.event })

pub invariant_of-self : goal.invariant_of-self
invariant_of-self c =
    let a = c.self.inside in
    let row = c.index_mut.result.now in
    let was = there a c.self.invariant c.args.id c.deref.result.now c.deref.ensures.value c.in-Ok.found c.in-Ok.ensures row c.index_mut.ensures.value in
    NotesEveryWatch-kept a c.self.invariant c.args.id c.deref.result.now c.deref.ensures.value c.in-Ok.found c.in-Ok.ensures row
    c.index_mut.ensures.value (record row.instance { queue = c.offer_one.new.queue }) refl
    (c.offer_one.ensures.events (events-at a c.self.invariant c.args.id row.instance was))

pub returns : goal.returns
returns c =
    let row = c.index_mut.result.now in
    instances_of-changed c.self.inside c.self.invariant c.args.id c.deref.result.now c.deref.ensures.value c.in-Ok.found c.in-Ok.ensures
    row c.index_mut.ensures.value (record row.instance { queue = c.offer_one.new.queue }) c.args.self.now c.self.view_is
    (λ i. record i { queue = after_offer i.queue c.args.event }) (ap (λ q. record row.instance { queue = q }) (sym c.offer_one.ensures.queue))
