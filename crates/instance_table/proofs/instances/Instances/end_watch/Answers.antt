use Rattle.std.proofs.Common.{ap, sym, ◌∙◌, refl}
use Rattle.std.specs.Int.{w32}
use Rattle.std.proofs.lemmas.Int.{to_z-of_z}
use Rattle.watch_table.specs.Watching.{removed}
use Rattle.watch_table.proofs.Watched.{without}
use Rattle.instance_table.proofs.Indexed.{NotesEveryWatch-changed, instances_of-changed, noted-dropped, there, unchanged}
use Rattle.instance_table.proofs.instances.Instances.end_watch.Goals as goal

pub returns-in_default : goal.returns-in_default
returns-in_default c =
    unchanged c.self.inside c.self.invariant c.args.id c.deref.result.now c.deref.ensures.value c.in_default.field-0
    c.in_default.ensures c.args.self.now c.self.view_is (λ i. record i { watches = removed i.watches c.args.wd })

pub returns-in_default-watched_by : goal.returns-in_default-watched_by
returns-in_default-watched_by c =
    let row = c.index_mut.result.now in
    instances_of-changed c.self.inside c.self.invariant c.args.id c.deref.result.now c.deref.ensures.value c.in-Ok.index c.in-Ok.ensures
    row c.index_mut.ensures.value row.instance c.args.self.now c.self.view_is (λ i. record i { watches = removed i.watches c.args.wd })
    (ap (λ z. record row.instance { watches = removed row.instance.watches z }) (sym (to_z-of_z w32 c.args.wd c.ranges.wd))
    ∙ ap (λ o. record row.instance { watches = without row.instance.watches o }) (sym c.in_default-watched_by.ensures))

pub invariant_of-self-2 : goal.invariant_of-self-2
invariant_of-self-2 c =
    let a = c.self.inside in
    let row = c.index_mut.result.now in
    let was = there c.self.inside c.self.invariant c.args.id c.deref.result.now c.deref.ensures.value c.in-Ok.index
    c.in-Ok.ensures row c.index_mut.ensures.value in
    NotesEveryWatch-changed c.self.inside c.self.invariant c.args.id c.deref.result.now c.deref.ensures.value c.in-Ok.index
    c.in-Ok.ensures row c.index_mut.ensures.value (record row.instance { watches = c.drop_file.new.self }) c.remove.new.self
    (noted-dropped a c.self.invariant c.args.id row.instance was c.in-Some.number c.drop_file.new.self c.drop_file.ensures.watches
    c.remove.new.self c.remove.ensures.noted)
    (c.remove.ensures.rows c.self.invariant.rows) refl

pub returns : goal.returns
returns c =
    let row = c.index_mut.result.now in
    instances_of-changed c.self.inside c.self.invariant c.args.id c.deref.result.now c.deref.ensures.value c.in-Ok.index
    c.in-Ok.ensures row c.index_mut.ensures.value (record row.instance { watches = c.drop_file.new.self })
    c.args.self.now c.self.view_is (λ i. record i { watches = removed i.watches c.args.wd })
    (ap (λ z. record row.instance { watches = removed row.instance.watches z }) (sym (to_z-of_z w32 c.args.wd c.ranges.wd))
    ∙ ap (λ o. record row.instance { watches = without row.instance.watches o }) (sym c.in-Some.ensures)
    ∙ ap (λ w. record row.instance { watches = w }) (sym c.drop_file.ensures.watches))
