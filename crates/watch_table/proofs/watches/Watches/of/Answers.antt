use Rattle.std.proofs.Common.{sym, ap, ◌∙◌}
use Rattle.watch_table.specs.Watching.{watch_of}
use Rattle.watch_table.proofs.Maps.{get-from_map}
use Rattle.watch_table.proofs.watches.Watches.of.Goals as goal

pub returns : goal.returns
returns c =
    c.copied.ensures ∙ c.get.ensures.value ∙ sym (get-from_map c.self.inside.by_number c.args.number) ∙ ap (λ w. watch_of w c.args.number) c.self.view_is
