use Rattle.std.proofs.Common.{map, sym, ap, ◌∙◌}
use Rattle.std.specs.FinMap as finmap
use Rattle.std.proofs.lemmas.List.{take_all}
use Rattle.instance_table.specs.declared.opened.Opened.{Opened}
use Rattle.instance_table.specs.Rows.{instance_row}
use Rattle.instance_table.proofs.Indexed.{entries-opened}
use Rattle.instance_table.proofs.instances.Instances.rows.Goals as goal

pub returns-clause-rows : goal.returns-clause-rows
returns-clause-rows c =
    let items = c.deref-row-items.result.now in
    c.loop-row.invariant
    ∙ ap (λ os. map instance_row (map (λ (o : Opened). (o.id, o.instance)) os))
    (take_all c.loop-row.row-index items c.loop-row-test.false ∙ c.deref-row-items.ensures.value)
    ∙ ap (map instance_row) (sym (entries-opened c.self.inside c.self.invariant))
    ∙ ap (λ m. map instance_row (finmap.entries m)) c.self.view_is
