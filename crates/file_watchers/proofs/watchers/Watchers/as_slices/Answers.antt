use Rattle.std.proofs.Common.{[], ◌∷◌, sym, subst}
use Rattle.file_watchers.specs.Watchers.{AreWatchers}
use Rattle.file_watchers.proofs.Alone.{are-one}
use Rattle.file_watchers.proofs.watchers.Watchers.as_slices.Goals as goal

pub returns-in-One-clause-watchers : goal.returns-in-One-clause-watchers
returns-in-One-clause-watchers c =
    subst (λ ids. AreWatchers ids c.from_ref-in-One.result.now) (sym c.from_ref.ensures.value)
    (subst (λ watches. AreWatchers (c.in-One.id ∷ []) watches) (sym c.from_ref-in-One.ensures.value) (are-one c.in-One.id c.in-One.watch))
