use Rattle.std.proofs.Common.{◌+◌, Result, Ok, Err, OnOk, OnErr, ap, sym, subst}
use Rattle.std.proofs.lemmas.Result.{on_ok_weaker, on_err_weaker}
use Rattle.inode_table.specs.TableWorld.{HasNumbersBelow, world_in, world_of}
use Rattle.inode_table.specs.World.{IsWhole}
use Rattle.tree_ops.specs.After.{numbers_of}
use Rattle.tree_ops.proofs.Numbers.{numbers-after, next-free}
use Rattle.tree_ops.proofs.WorldsStay.{IsWhole-after}
use Rattle.tree_ops.proofs.carrying.carry_out.Goals as goal

either_way : {T E P : Type 0} (r : Result T E) → OnOk r P → OnErr r P → P
either_way (Ok x) p q = p
either_way (Err e) p q = q

pub returns-clause-numbers : goal.returns-clause-numbers
returns-clause-numbers c =
    on_ok_weaker c.apply.result
    (λ is. subst (λ w. HasNumbersBelow w (c.args.plan.now.counts.next_number + numbers_of c.args.plan.now.call)) (sym is)
    (numbers-after (world_of c.args.table.now) c.args.plan.now.counts c.args.plan.now.call c.requires.ready.numbers))
    c.apply.ensures.world

pub returns-clause-err_world : goal.returns-clause-err_world
returns-clause-err_world c = on_err_weaker c.apply.result (λ e. ap world_in e) c.apply.ensures.err

pub returns-clause-err_numbers : goal.returns-clause-err_numbers
returns-clause-err_numbers c =
    on_err_weaker c.apply.result
    (λ e. subst (λ w. HasNumbersBelow w c.args.plan.now.counts.next_number) (sym (ap world_in e)) c.requires.ready.numbers) c.apply.ensures.err

pub returns-clause-whole : goal.returns-clause-whole
returns-clause-whole c whole =
    let w = world_of c.args.table.now in
    let ready = c.requires.ready in
    either_way c.apply.result
    (on_ok_weaker c.apply.result
    (λ is. subst IsWhole (sym is)
    (IsWhole-after w ready.limits c.args.plan.now.counts c.law.ensures.world whole c.args.plan.now.call ready.accepted
    (next-free w c.args.plan.now.counts.next_number ready.numbers)))
    c.apply.ensures.world)
    (on_err_weaker c.apply.result (λ e. subst IsWhole (sym (ap world_in e)) whole) c.apply.ensures.err)
