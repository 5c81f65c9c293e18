use Rattle.watch_table.proofs.Ended.{HasEnded-added, HasEnded-dropped, HasEnded-removed, ends_by_drop, ends_by_remove}
use Rattle.watch_table.proofs.laws.descriptors_end_for_good.Goals as goal

pub returns-clause-removed : goal.returns-clause-removed
returns-clause-removed c = ends_by_remove

pub returns-clause-dropped : goal.returns-clause-dropped
returns-clause-dropped c = ends_by_drop

pub returns-clause-after_added : goal.returns-clause-after_added
returns-clause-after_added c = HasEnded-added

pub returns-clause-after_removed : goal.returns-clause-after_removed
returns-clause-after_removed c = HasEnded-removed

pub returns-clause-after_dropped : goal.returns-clause-after_dropped
returns-clause-after_dropped c = HasEnded-dropped
