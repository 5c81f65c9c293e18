use Rattle.instance_table.proofs.Copied.{NotesEveryWatch-copied}
use Rattle.std.proofs.Common.{ap, ◌∙◌}
use Rattle.instance_table.specs.Opened.{by_number}
use Rattle.instance_table.proofs.instances.Instances.copy.Goals as goal

pub invariant_of-result : goal.invariant_of-result
invariant_of-result c =
    let a = c.self.inside in
    let b = record a { opened = c.in_ok-copy_rows.field-0; index = c.in_ok-copy.field-0 } in
    NotesEveryWatch-copied a b c.self.invariant (c.in_ok-copy_rows.ensures.rows ∙ c.as_slice.ensures.value) c.in_ok-copy.ensures.noted c.in_ok-copy.ensures.rows

pub returns-clause-instances : goal.returns-clause-instances
returns-clause-instances c = ap by_number (c.in_ok-copy_rows.ensures.rows ∙ c.as_slice.ensures.value) ∙ c.self.view_is
