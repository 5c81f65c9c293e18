use Rattle.std.proofs.Common.{ap, sym, ◌∙◌}
use Rattle.std.specs.FinMap as finmap
use Rattle.file_watchers.specs.Watchers.{WatchMap}
use Rattle.file_watchers.proofs.Zipped.{watchers-keys}
use Rattle.file_watchers.proofs.watchers.Watchers.ids.Goals as goal

pub returns : goal.returns
returns c =
    let lent = c.as_slices in
    sym (watchers-keys lent.result.0.now lent.result.1.now lent.ensures.watchers) ∙ ap (λ (m : WatchMap). finmap.keys m) lent.ensures.map
