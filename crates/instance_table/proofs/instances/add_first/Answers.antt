use Rattle.std.proofs.Common.{rules, ◌≡◌, ◌<◌, ◌^◌, Option, Some, sym, ap, ◌∙◌, subst, cond, ◌&&◌, eqb, inl, w32, pos, to_z}
use Rattle.std.proofs.lemmas.Int.{to_z_pos, to_z-of_z}
use mir.Val.{SFits}
use Rattle.watch_table.specs.Masks.{stored}
use Rattle.watch_table.specs.declared.watch.Watch.{Watch}
use Rattle.watch_table.specs.Watching.{Watching, watch_of, with_new_watch}
use Rattle.instance_table.specs.Index.{watch_noted}
use Rattle.instance_table.proofs.Indexed.{first-watch, added-first, wd-first, room-left, wd-left}
use Rattle.instance_table.proofs.instances.add_first.Goals as goal

pub overflow_cast-watch : goal.overflow_cast-watch
overflow_cast-watch c =
    let w = c.args.watches.now in
    let room = room-left w c.args.number c.args.mask.0 c.args.is_directory c.requires.unwatched (c.in_default.ensures c.args.number c.requires.unwatched) in
    let left : c.next_wd.result < 2 ^ 31 = subst (λ n. n < 2 ^ 31) (sym c.next_wd.ensures.value) (wd-left w c.next_wd.ensures.sound room) in
    search rules

pub add_new-requires-clause-room : goal.add_new-requires-clause-room
add_new-requires-clause-room c =
    room-left c.args.watches.now c.args.number c.args.mask.0 c.args.is_directory c.requires.unwatched
    (c.in_default.ensures c.args.number c.requires.unwatched)

pub returns-in-Err-clause-refusals : goal.returns-in-Err-clause-refusals
returns-in-Err-clause-refusals c = inl (c.in-Err.ensures c.args.number c.requires.unwatched)

pub returns-in-Ok-clause-wd : goal.returns-in-Ok-clause-wd
returns-in-Ok-clause-wd c =
    let fits : SFits w32 c.in-Ok.wd = search rules in
    to_z-of_z w32 c.in-Ok.wd fits ∙ c.in-Ok.ensures.wd ∙ sym (wd-first c.args.watches.now c.args.number c.requires.unwatched)

pub returns-in-Ok-clause-watches : goal.returns-in-Ok-clause-watches
returns-in-Ok-clause-watches c =
    c.in-Ok.ensures.watches ∙ ap (with_new_watch c.args.watches.now c.args.number) c.stored-bits.ensures
    ∙ sym (added-first c.args.watches.now c.args.number c.args.mask.0 c.requires.unwatched)

pub returns-in-Ok-clause-noted : goal.returns-in-Ok-clause-noted
returns-in-Ok-clause-noted c n q =
    let w = c.args.watches.now in
    let room = room-left w c.args.number c.args.mask.0 c.args.is_directory c.requires.unwatched (c.in_default.ensures c.args.number c.requires.unwatched) in
    let left : c.next_wd.result < 2 ^ 31 = subst (λ n. n < 2 ^ 31) (sym c.next_wd.ensures.value) (wd-left w c.next_wd.ensures.sound room) in
    let wd : to_z w32 c.next_wd.result ≡ pos w.next_wd = to_z_pos w32 c.next_wd.result left ∙ ap pos c.next_wd.ensures.value in
    let there : watch_of c.add_new.new.self c.args.number ≡ Some (record { wd = to_z w32 c.next_wd.result; mask = c.stored-bits.result }) =
    ap (λ (x : Watching). watch_of x c.args.number)
    (c.in-Ok.ensures.watches ∙ ap (with_new_watch w c.args.number) c.stored-bits.ensures ∙ sym (added-first w c.args.number c.args.mask.0 c.requires.unwatched))
    ∙ first-watch w c.args.number c.args.mask.0 c.requires.unwatched
    ∙ ap (λ z. Some (record { wd = z; mask = stored c.args.mask.0 })) (sym wd)
    ∙ ap (λ b. Some (record { wd = to_z w32 c.next_wd.result; mask = b })) (sym c.stored-bits.ensures) in
    c.in_ok-put.ensures.ok n q
    ∙ ap (λ (o : Option Watch). cond (eqb n c.args.number && eqb q c.args.id) o (watch_noted c.args.index.now n q)) (sym there)

pub returns-in-Err-add_new-clause-err_noted : goal.returns-in-Err-add_new-clause-err_noted
returns-in-Err-add_new-clause-err_noted c = search rules
