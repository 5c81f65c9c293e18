use Rattle.std.proofs.Common.{ap, sym, ◌∙◌}
use Rattle.tree_paths.specs.Rows.{first_row}
use Rattle.tree_core.specs.Tree.{read_rows}
use Rattle.tree_core.proofs.Pumping.{read-attempts, read-taken}
use Rattle.tree_core.proofs.file_system.FileSystem.read.Goals as goal

pub returns-clause-begun : goal.returns-clause-begun
returns-clause-begun c =
    let m = c.args.self.now in
    read-attempts m c.args.pumps c.args.id c.args.bytes c.in_ok-instance.instance.now _ c.fit_len-fit.result.count c.in_ok-records.records c.requires
    (sym c.find.ensures ∙ c.in_ok-instance.ensures.there)
    (ap (λ o. first_row (read_rows c.args.pumps c.args.bytes o)) (sym c.find.ensures) ∙ c.in_ok-instance.ensures.passes)
    c.fit_len-fit.ensures.count
    c.in_ok-records.ensures.bytes

pub returns-clause-records : goal.returns-clause-records
returns-clause-records c =
    let m = c.args.self.now in
    read-taken m c.args.id c.args.bytes c.in_ok-instance.instance.now c.find.new.index c.fit_len-fit.result.count
    (sym c.find.ensures ∙ c.in_ok-instance.ensures.there) c.fit_len-fit.ensures.count
