use Rattle.std.proofs.Common.{◌≡◌, false, ap, subst, sym, ◌∙◌}
use Rattle.instance_table.specs.Instances.{instance_of, watches_file}
use Rattle.instance_table.specs.Filters.{passes}
use Rattle.instance_table.proofs.WhoWatches.{stopped-unwatched}
use Rattle.instance_table.proofs.instances.Instances.watch_filter.Goals as goal

pub returns : goal.returns
returns c number id none =
    subst (λ m. watches_file number (instance_of m id) ≡ false) c.self.view_is
    (stopped-unwatched c.self.inside c.self.invariant number id (ap (λ m. passes m number) (sym c.filter.ensures) ∙ none))
