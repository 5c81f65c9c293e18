use Rattle.std.proofs.Common.{◌≡◌, ap, sym, ◌∙◌, subst, refl, Some, None, Err, IsSome, IfSome, IfErr, IfOk, OnOk}
use Rattle.std.specs.Prelude.{◌⊎◌}
use Rattle.std.specs.FinMap as finmap
use Rattle.std.proofs.lemmas.Result.{on_ok_weaker, on_err_weaker}
use Rattle.std.proofs.lemmas.Bool.{false≢true}
use Rattle.tree_paths.specs.declared.refusal.Refusal.{Refusal}
use Rattle.tree_paths.specs.declared.refusal.Refusal.TheVariants.{Enomem}
use Rattle.watch_table.specs.Watching.{add_refusal, wd_added}
use Rattle.instance_table.specs.declared.instance.Instance.{Instance}
use Rattle.instance_table.specs.Instances.{instance_of, watching}
use Rattle.instance_table.specs.Watchers.{watch_at}
use Rattle.instance_table.specs.Views.{instances_of}
use Rattle.instance_table.proofs.Indexed.{NotesEveryWatch-changed, absent, instances_of-changed, noted-after, put, put-same, there}
use Rattle.instance_table.proofs.instances.Instances.watch.Goals as goal

pub unreachable-requires : goal.unreachable-requires
unreachable-requires c =
    let none : instance_of c.args.self.now c.args.id ≡ None =
    ap (λ m. instance_of m c.args.id) (sym c.self.view_is)
    ∙ absent c.self.inside c.self.invariant c.args.id c.deref.result.now c.deref.ensures.value c.in_default.field-0 c.in_default.ensures in
    false≢true (subst (λ o. IsSome o) none c.requires.there)

pub add_noted-requires-clause-noted : goal.add_noted-requires-clause-noted
add_noted-requires-clause-noted c =
    c.self.invariant.noted c.args.number c.args.id
    ∙ ap (watch_at c.args.number)
    (there c.self.inside c.self.invariant c.args.id c.deref.result.now c.deref.ensures.value c.in-Ok.found c.in-Ok.ensures
    c.index_mut.result.now c.index_mut.ensures.value)

pub invariant_of-self : goal.invariant_of-self
invariant_of-self c =
    let a = c.self.inside in
    let row = c.index_mut.result.now in
    let was = there c.self.inside c.self.invariant c.args.id c.deref.result.now c.deref.ensures.value c.in-Ok.found
    c.in-Ok.ensures row c.index_mut.ensures.value in
    NotesEveryWatch-changed c.self.inside c.self.invariant c.args.id c.deref.result.now c.deref.ensures.value c.in-Ok.found
    c.in-Ok.ensures row c.index_mut.ensures.value (record row.instance { watches = c.add_noted.new.watches }) c.add_noted.new.index
    (noted-after a c.self.invariant c.args.id row.instance was c.args.number c.args.mask.0 c.add_noted.new.watches
    c.add_noted.new.index c.add_noted.result c.add_noted.ensures.watches c.add_noted.ensures.noted c.add_noted.ensures.err
    c.add_noted.ensures.err_noted) (c.add_noted.ensures.rows c.self.invariant.rows) refl

pub returns-clause-wd : goal.returns-clause-wd
returns-clause-wd c =
    let was : instance_of c.args.self.now c.args.id ≡ Some c.index_mut.result.now.instance =
    ap (λ m. instance_of m c.args.id) (sym c.self.view_is)
    ∙ there c.self.inside c.self.invariant c.args.id c.deref.result.now c.deref.ensures.value c.in-Ok.found c.in-Ok.ensures
    c.index_mut.result.now c.index_mut.ensures.value in
    subst (λ o. IfOk c.add_noted.result (λ wd. IfSome o (λ (i : Instance). wd ≡ wd_added i.watches c.args.number))) (sym was) c.add_noted.ensures.wd

pub returns-clause-ok : goal.returns-clause-ok
returns-clause-ok c =
    let row = c.index_mut.result.now in
    on_ok_weaker c.add_noted.result (λ same.
    instances_of-changed c.self.inside c.self.invariant c.args.id c.deref.result.now c.deref.ensures.value c.in-Ok.found
    c.in-Ok.ensures row c.index_mut.ensures.value (record row.instance { watches = c.add_noted.new.watches }) c.args.self.now
    c.self.view_is (watching c.args.number c.args.mask.0) (ap (λ w. record row.instance { watches = w }) (sym same)))
    c.add_noted.ensures.watches

pub returns-clause-accepted : goal.returns-clause-accepted
returns-clause-accepted c =
    let was : instance_of c.args.self.now c.args.id ≡ Some c.index_mut.result.now.instance =
    ap (λ m. instance_of m c.args.id) (sym c.self.view_is)
    ∙ there c.self.inside c.self.invariant c.args.id c.deref.result.now c.deref.ensures.value c.in-Ok.found c.in-Ok.ensures
    c.index_mut.result.now c.index_mut.ensures.value in
    subst (λ o. OnOk c.add_noted.result (IfSome o (λ (i : Instance). add_refusal i.watches c.args.number c.args.mask.0 c.args.is_directory ≡ None)))
    (sym was) c.add_noted.ensures.accepted

pub returns-clause-refused : goal.returns-clause-refused
returns-clause-refused c =
    let was : instance_of c.args.self.now c.args.id ≡ Some c.index_mut.result.now.instance =
    ap (λ m. instance_of m c.args.id) (sym c.self.view_is)
    ∙ there c.self.inside c.self.invariant c.args.id c.deref.result.now c.deref.ensures.value c.in-Ok.found c.in-Ok.ensures
    c.index_mut.result.now c.index_mut.ensures.value in
    subst (λ o. IfSome o (λ (i : Instance). (r : Refusal) → add_refusal i.watches c.args.number c.args.mask.0 c.args.is_directory ≡ Some r
    → c.add_noted.result ≡ Err r)) (sym was) c.add_noted.ensures.refused

pub returns-clause-refusals : goal.returns-clause-refusals
returns-clause-refusals c =
    let was : instance_of c.args.self.now c.args.id ≡ Some c.index_mut.result.now.instance =
    ap (λ m. instance_of m c.args.id) (sym c.self.view_is)
    ∙ there c.self.inside c.self.invariant c.args.id c.deref.result.now c.deref.ensures.value c.in-Ok.found c.in-Ok.ensures
    c.index_mut.result.now c.index_mut.ensures.value in
    subst (λ o. IfErr c.add_noted.result
    (λ r. IfSome o (λ (i : Instance). (add_refusal i.watches c.args.number c.args.mask.0 c.args.is_directory ≡ Some r) ⊎ (r ≡ Enomem))))
    (sym was) c.add_noted.ensures.refusals

pub returns-clause-err : goal.returns-clause-err
returns-clause-err c =
    let a = c.self.inside in
    let row = c.index_mut.result.now in
    on_err_weaker c.add_noted.result (λ same.
    put c.self.inside c.self.invariant c.args.id c.deref.result.now c.deref.ensures.value c.in-Ok.found c.in-Ok.ensures row
    c.index_mut.ensures.value (record row.instance { watches = c.add_noted.new.watches })
    ∙ ap (λ w. finmap.insert (instances_of a) c.args.id (record row.instance { watches = w })) same
    ∙ put-same (instances_of a) c.args.id row.instance
    (there c.self.inside c.self.invariant c.args.id c.deref.result.now c.deref.ensures.value c.in-Ok.found c.in-Ok.ensures
    row c.index_mut.ensures.value)
    ∙ c.self.view_is)
    c.add_noted.ensures.err
