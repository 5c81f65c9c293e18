use Rattle.std.proofs.Common.{sym, ap, ◌∙◌}
use Rattle.std.specs.FinMap as map
use Rattle.watch_table.proofs.Maps.{len-from_map}
use Rattle.watch_table.proofs.watches.Watches.len.Goals as goal

pub returns : goal.returns
returns c =
    c.len.ensures.len ∙ sym (len-from_map c.self.inside.by_number c.len.ensures.ordered) ∙ ap (λ w. map.len w.watches) c.self.view_is
