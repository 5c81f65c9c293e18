use Rattle.std.proofs.Common.{rules, subst}
use Rattle.tree_core.specs.Journal.{now}
use Rattle.tree_core.specs.Kept.{journal_of}
use Rattle.tree_core.specs.QueueLaws.{RecordsAreEvents}
use Rattle.tree_core.proofs.Spelled.{events-of-file_system}
use Rattle.tree_core.proofs.state.State.journal.Goals as goal

pub returns-clause-events : goal.returns-clause-events
returns-clause-events c =
    let a = c.self.inside in
    subst RecordsAreEvents c.self.view_is
    (record { read = c.self.invariant.read; waiting = events-of-file_system (now (journal_of a)) a.file_system c.self.invariant.stands c.law.ensures })

pub returns-clause-entries : goal.returns-clause-entries
returns-clause-entries c = search rules
