use Rattle.std.proofs.Common.{ap, sym, ◌∙◌, []}
use Rattle.std.specs.FinMap as map
use Rattle.file_watchers.specs.Watchers.{WatchMap}
use Rattle.instance_table.proofs.Noted.{row-none}
use Rattle.file_watchers.proofs.Zipped.{none-watch, watchers-keys}
use Rattle.instance_table.proofs.index.Index.of.Goals as goal

pub returns-in-None : goal.returns-in-None
returns-in-None c =
    sym (watchers-keys [] [] none-watch) ∙ ap (λ (m : WatchMap). map.keys m) (sym (row-none c.args.self.now c.args.number (sym c.in-None.ensures.value)))
