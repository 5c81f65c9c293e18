use Rattle.std.proofs.Common.{◌+◌, [], ◌∷◌, length, take, refl, sym, ap, ◌∙◌, arith, length-append}
use Rattle.std.proofs.lemmas.List.{take_all}
use Rattle.instance_table.specs.Opened.{ready_rows, written_over}
use Rattle.instance_table.proofs.Readied.{over-none, rows-next}
use Rattle.instance_table.proofs.instances.ready.ready_rows.Goals as goal

pub loop-row-init : goal.loop-row-init
loop-row-init c = record { count = refl; within = omega arith; ids = sym (over-none c.args.out.now) }

pub loop-row-preserved : goal.loop-row-preserved
loop-row-preserved c =
    let rows = c.args.rows.now in
    let k = c.loop-row.row-index in
    let next = rows-next rows k c.row-item.result c.loop-row-test.true c.row-item.is in
    let one = c.put_row-count.ensures in
    record {
      count =
          one.count ∙ ap (λ n. n + length (ready_rows (c.row-item.result ∷ []))) c.loop-row.invariant.count
          ∙ sym (length-append (ready_rows (take k rows)) (ready_rows (c.row-item.result ∷ []))) ∙ ap length (sym next);
      within = omega (arith, one.within);
      ids =
          one.ids (ready_rows (take k rows)) c.args.out.now c.loop-row.invariant.count c.loop-row.invariant.ids
          ∙ ap (λ ids. written_over ids c.args.out.now) (sym next);
    }

pub returns : goal.returns
returns c =
    let all = take_all c.loop-row.row-index c.args.rows.now c.loop-row-test.false in
    record {
      count = c.loop-row.invariant.count ∙ ap (λ rows. length (ready_rows rows)) all;
      ids = c.loop-row.invariant.ids ∙ ap (λ rows. written_over (ready_rows rows) c.args.out.now) all;
    }
