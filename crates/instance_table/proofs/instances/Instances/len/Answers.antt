use Rattle.std.proofs.Common.{length, ap, sym, ◌∙◌}
use Rattle.std.proofs.lemmas.List.{length-map}
use Rattle.std.specs.FinMap as finmap
use Rattle.std.specs.FinMap.{len-entries}
use Rattle.instance_table.specs.declared.opened.Opened.{Opened}
use Rattle.instance_table.specs.Views.{instances_of}
use Rattle.instance_table.proofs.Indexed.{entries-opened}
use Rattle.instance_table.proofs.instances.Instances.len.Goals as goal

pub returns : goal.returns
returns c =
    let a = c.self.inside in
    c.len.ensures ∙ a.opened.ok.0
    ∙ sym (len-entries (instances_of a) ∙ ap length (entries-opened a c.self.invariant) ∙ length-map a.opened.items (λ (o : Opened). (o.id, o.instance)))
    ∙ ap finmap.len c.self.view_is
