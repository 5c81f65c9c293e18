use Rattle.std.proofs.Common.{◌≡◌, ap, sym, subst, refl, ◌∙◌}
use Rattle.std.specs.Prelude.{OnOk}
use Rattle.std.specs.FinMap as map
use Rattle.std.specs.Ordering.{nat_cmp}
use Rattle.record_codec.specs.Records.{AreEvents}
use Rattle.watch_table.specs.Watching.{watch_of, no_watches}
use Rattle.instance_table.specs.declared.instance.Instance.{Instance}
use Rattle.instance_table.specs.Instances.{instance_of, new_instance}
use Rattle.instance_table.specs.Views.{instances_of}
use Rattle.instance_table.proofs.Indexed.{NotesEveryWatch-new, NotesEveryWatch-same, instances_of-new, taken}
use Rattle.instance_table.proofs.instances.Instances.open.Goals.{in-Ok, in-Err-insert}
use Rattle.instance_table.proofs.instances.Instances.open.Goals as goal

pub unreachable-requires : goal.unreachable-requires
unreachable-requires c =
    taken c.self.inside c.self.invariant c.args.id c.deref.result.now c.deref.ensures.value c.in_default.field-0
    c.in_default.ensures (ap (λ m. instance_of m c.args.id) c.self.view_is ∙ c.requires.free)

pub invariant_of-self : goal.invariant_of-self
invariant_of-self c =
    let a = c.self.inside in
    let b = record a { opened = c.insert.new.self } in
    let i : Instance = record { is_piped = c.args.is_piped; watches = c.new.result; queue = c.in_ok-with_limit.field-0 } in
    elim c.match-insert.branch [
      | in-Ok w ↦
          NotesEveryWatch-new a c.self.invariant c.args.id c.deref.result.now c.deref.ensures.value c.in-Err.index
          c.in-Err.ensures i b w.in-Ok.ensures.items refl
          (λ n. ap (λ w. watch_of w n) c.new.ensures ∙ map.get-empty nat_cmp n) (subst (λ q. AreEvents q.waiting) (sym c.in_ok-with_limit.ensures.queue) tt)
      | in-Err-insert w ↦ NotesEveryWatch-same a b c.self.invariant w.in-Err-insert.ensures.items refl
    ]

pub returns-clause-ok : goal.returns-clause-ok
returns-clause-ok c =
    let a = c.self.inside in
    let b = record a { opened = c.insert.new.self } in
    let i : Instance = record { is_piped = c.args.is_piped; watches = c.new.result; queue = c.in_ok-with_limit.field-0 } in
    let new = new_instance c.args.limits.now c.args.limit c.args.is_piped in
    let made : i ≡ new =
    ap (λ w. record i { watches = w }) c.new.ensures
    ∙ ap (λ q. record i { watches = no_watches c.args.limits.now; queue = q }) c.in_ok-with_limit.ensures.queue in
    elim c.match-insert.branch [
      | in-Ok w ↦ subst (λ r. OnOk r (instances_of b ≡ map.insert c.args.self.now c.args.id new)) (sym w.result-is)
          (instances_of-new a c.self.invariant c.args.id c.deref.result.now c.deref.ensures.value c.in-Err.index c.in-Err.ensures i b w.in-Ok.ensures.items
          ∙ ap (map.insert (instances_of a) c.args.id) made ∙ ap (λ m. map.insert m c.args.id new) c.self.view_is)
      | in-Err-insert w ↦ subst (λ r. OnOk r (instances_of b ≡ map.insert c.args.self.now c.args.id new)) (sym w.result-is) tt
    ]
