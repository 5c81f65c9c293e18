use Rattle.std.proofs.Common.{◌≡◌, Option, Some, sym, ap, ◌∙◌, cond, ◌&&◌, eqb, w32, rules}
use Rattle.std.proofs.lemmas.Int.{to_z-of_z}
use mir.Val.{SFits}
use Rattle.watch_table.specs.declared.watch.Watch.{Watch}
use Rattle.watch_table.specs.Watching.{Watching, watch_of}
use Rattle.instance_table.specs.Index.{watch_noted}
use Rattle.instance_table.proofs.Indexed.{next-watch}
use Rattle.instance_table.proofs.instances.add_noted.Goals as goal

pub returns-in-Ok-clause-noted : goal.returns-in-Ok-clause-noted
returns-in-Ok-clause-noted c n q =
    let w = c.args.watches.now in
    let before : Watch = c.in-Some.before in
    let bits = c.next_bits.result in
    let fits : SFits w32 before.wd = search rules in
    let there : watch_of c.add.new.self c.args.number ≡ Some (record { wd = before.wd; mask = bits }) =
    ap (λ (x : Watching). watch_of x c.args.number) c.in-Ok.ensures.watches
    ∙ next-watch w c.args.number c.args.mask.0 before (sym c.in-Some.ensures)
    ∙ ap (λ b. Some (record { wd = before.wd; mask = b })) (sym c.next_bits.ensures) in
    c.set.ensures.noted n q
    ∙ ap (λ z. cond (eqb n c.args.number && eqb q c.args.id) (Some (record { wd = z; mask = bits })) (watch_noted c.args.index.now n q))
    (to_z-of_z w32 before.wd fits)
    ∙ ap (λ (o : Option Watch). cond (eqb n c.args.number && eqb q c.args.id) o (watch_noted c.args.index.now n q)) (sym there)

pub returns-in-Err-clause-refused : goal.returns-in-Err-clause-refused
returns-in-Err-clause-refused c = search rules
