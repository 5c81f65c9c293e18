use Rattle.std.proofs.Common.{sym, ap, ◌∙◌}
use Rattle.std.specs.FinMap as map
use Rattle.watch_table.proofs.Maps.{keys-from_map}
use Rattle.watch_table.proofs.watches.Watches.numbers.Goals as goal

pub returns-clause-rest : goal.returns-clause-rest
returns-clause-rest c =
    c.keys.ensures.rest ∙ sym (keys-from_map c.self.inside.by_number c.keys.ensures.ordered) ∙ ap (λ w. map.keys w.watches) c.self.view_is
