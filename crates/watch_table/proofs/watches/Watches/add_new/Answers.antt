use Rattle.std.proofs.Common.{◌^◌, ◌<◌, Some, None, ap, ◌∙◌, subst, refl, w32, arith}
use Rattle.std.specs.Prelude.{pos}
use Rattle.std.specs.BTreeMap as tree
use Rattle.std.specs.Map.{lookup}
use Rattle.std.specs.Ordering.{nat_cmp, int_cmp}
use Rattle.std.proofs.lemmas.Int.{to_z_pos}
use Rattle.watch_table.specs.Watching.{is_full, watch_of, with_new_watch}
use Rattle.watch_table.specs.Index.{watching_of}
use Rattle.watch_table.proofs.Watched.{room_of}
use Rattle.watch_table.proofs.Indexed.{IsIndexed-same, IsIndexed-new, put_back, watching_of-new}
use Rattle.watch_table.proofs.watches.Watches.add_new.Goals as goal

pub invariant_of-self : goal.invariant_of-self
invariant_of-self c =
    let a = c.self.inside in
    IsIndexed-same a c.self.invariant a.by_number c.insert.new.self refl (λ wd. ap (lookup (tree.is_at (int_cmp wd))) c.in_err-insert.ensures.err)

pub invariant_of-self-in-Err : goal.invariant_of-self-in-Err
invariant_of-self-in-Err c =
    let a = c.self.inside in
    let room = room_of (watching_of a) (ap is_full c.self.view_is ∙ c.requires.room) in
    let fits : a.next_wd < 2 ^ 31 = omega (arith, c.self.invariant.sound.small) in
    let next = to_z_pos w32 a.next_wd fits in
    let put : tree.Updates int_cmp a.by_wd c.insert.new.self (pos a.next_wd) (Some c.args.number) =
    subst (λ k. tree.Updates int_cmp a.by_wd c.insert.new.self k (Some c.args.number)) next
    c.in_ok-insert.ensures.updates in
    let back : tree.Updates int_cmp c.insert.new.self c.remove.new.self (pos a.next_wd) None =
    subst (λ k. tree.Updates int_cmp c.insert.new.self c.remove.new.self k None) next c.remove.ensures.updates in
    IsIndexed-same a c.self.invariant c.insert-2.new.self c.remove.new.self c.in-Err.ensures.err
    (put_back a c.self.invariant c.insert.new.self c.remove.new.self c.args.number put back)

pub invariant_of-self-2 : goal.invariant_of-self-2
invariant_of-self-2 c =
    let a = c.self.inside in
    let room = room_of (watching_of a) (ap is_full c.self.view_is ∙ c.requires.room) in
    let fits : a.next_wd < 2 ^ 31 = omega (arith, c.self.invariant.sound.small) in
    let next = to_z_pos w32 a.next_wd fits in
    let put_wd : tree.Updates int_cmp a.by_wd c.insert.new.self (pos a.next_wd) (Some c.args.number) =
    subst (λ k. tree.Updates int_cmp a.by_wd c.insert.new.self k (Some c.args.number)) next
    c.in_ok-insert.ensures.updates in
    let put : tree.Updates nat_cmp a.by_number c.insert-2.new.self c.args.number (Some (record { wd = pos a.next_wd; mask = c.args.bits })) =
    subst (λ z. tree.Updates nat_cmp a.by_number c.insert-2.new.self c.args.number (Some (record { wd = z; mask = c.args.bits }))) next
    c.in_default.ensures.updates in
    IsIndexed-new a c.self.invariant c.insert-2.new.self c.insert.new.self c.args.number c.args.bits put put_wd
    (ap (λ w. watch_of w c.args.number) c.self.view_is ∙ c.requires.absent) room.0 room.1

pub returns-clause-watches : goal.returns-clause-watches
returns-clause-watches c =
    let a = c.self.inside in
    let room = room_of (watching_of a) (ap is_full c.self.view_is ∙ c.requires.room) in
    let fits : a.next_wd < 2 ^ 31 = omega (arith, c.self.invariant.sound.small) in
    let put : tree.Updates nat_cmp a.by_number c.insert-2.new.self c.args.number (Some (record { wd = pos a.next_wd; mask = c.args.bits })) =
    subst (λ z. tree.Updates nat_cmp a.by_number c.insert-2.new.self c.args.number (Some (record { wd = z; mask = c.args.bits })))
    (to_z_pos w32 a.next_wd fits) c.in_default.ensures.updates in
    watching_of-new a c.self.invariant c.insert-2.new.self c.insert.new.self c.args.number c.args.bits put
    ∙ ap (λ w. with_new_watch w c.args.number c.args.bits) c.self.view_is
