use Rattle.std.proofs.Common.{sym, ap, ◌∙◌}
use Rattle.std.specs.Prelude.{option_map}
use Rattle.watch_table.specs.declared.watch.Watch.{Watch}
use Rattle.watch_table.proofs.Watched.{not_refused_room, refused_as_barred, refused_as_full}
use Rattle.watch_table.proofs.watches.Watches.check_new.Goals as goal

pub returns-then-is_barred : goal.returns-then-is_barred
returns-then-is_barred c number none =
    refused_as_barred c.args.self.now number c.args.mask.0 c.args.is_directory (sym c.is_barred.ensures ∙ c.if-is_barred.true)

pub returns-then-not-is_full : goal.returns-then-not-is_full
returns-then-not-is_full c number none =
    not_refused_room c.args.self.now number c.args.mask.0 c.args.is_directory (sym c.is_barred.ensures ∙ c.if-is_barred.false)
    (ap (option_map (λ (w : Watch). w.wd)) none) (sym c.is_full.ensures ∙ c.if-not-is_full.true)

pub returns : goal.returns
returns c number none =
    refused_as_full c.args.self.now number c.args.mask.0 c.args.is_directory (sym c.is_barred.ensures ∙ c.if-is_barred.false)
    (ap (option_map (λ (w : Watch). w.wd)) none) (sym c.is_full.ensures ∙ c.if-not-is_full.false)
