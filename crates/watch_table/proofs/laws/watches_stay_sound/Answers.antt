use Rattle.watch_table.proofs.Watched.{no_watches-IsSound, dropped-IsSound}
use Rattle.watch_table.proofs.Ended.{added-IsSound, removed-IsSound}
use Rattle.watch_table.proofs.laws.watches_stay_sound.Goals as goal

pub returns-clause-opened : goal.returns-clause-opened
returns-clause-opened c = no_watches-IsSound

pub returns-clause-added : goal.returns-clause-added
returns-clause-added c = added-IsSound

pub returns-clause-removed : goal.returns-clause-removed
returns-clause-removed c = removed-IsSound

pub returns-clause-dropped : goal.returns-clause-dropped
returns-clause-dropped c = dropped-IsSound
