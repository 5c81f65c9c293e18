use Rattle.std.proofs.Common.{subst}
use Rattle.instance_table.specs.Instances.{WaitingAreEvents}
use Rattle.tree_core.specs.Journal.{Journaled}
use Rattle.tree_core.specs.Kept.{journal_of}
use Rattle.tree_core.specs.Sound.{IsSoundTree}
use Rattle.tree_core.proofs.state.State.snapshot.Goals as goal

pub returns-clause-sound : goal.returns-clause-sound
returns-clause-sound c =
    let a = c.self.inside in
    let past = c.self.invariant.past in
    subst (λ (s : Journaled). IsSoundTree s.start) c.self.view_is (c.pasts_make_whole.ensures (journal_of a) past.0 past.1 c.self.invariant.lawful).sound

pub returns-clause-events : goal.returns-clause-events
returns-clause-events c = subst (λ (s : Journaled). WaitingAreEvents s.start.instances) c.self.view_is c.self.invariant.waited
