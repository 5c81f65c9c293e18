use Rattle.std.proofs.Common.{ℕ, subst}
use Rattle.instance_table.specs.Instances.{instance_of, waiting_of}
use Rattle.tree_core.specs.Histories.{raised_in}
use Rattle.tree_core.specs.Law.{AtEach, HasCookiesInTurn, IsTold, RefusedAddsNothing}
use Rattle.tree_core.specs.QueueLaws.{RecordsAreEvents}
use Rattle.tree_core.specs.Sound.{IsSoundTree}
use Rattle.tree_core.specs.TurnLaws.{EndsOnce}
use Rattle.shared_tree.specs.Calls.{TreeWithPipes, IsSent}
use Rattle.shared_tree.specs.Handed.{AreOfEvents, handed_since}
use Rattle.shared_tree.specs.Held.{sents}
use Rattle.shared_tree.specs.Law.{HasPipesOfPiped}
use Rattle.shared_tree.proofs.Wholes.{held-events, held-pipes-of-piped, held-sends}
use Rattle.shared_tree.proofs.held.Held.law.Goals as goal

pub returns-clause-sound : goal.returns-clause-sound
returns-clause-sound g c = subst (λ (h : TreeWithPipes). IsSoundTree h.state.start) c.self.view_is c.law.ensures.sound

pub returns-clause-told : goal.returns-clause-told
returns-clause-told g c =
    subst (λ (h : TreeWithPipes). (id : ℕ) → IsTold h.state id) c.self.view_is c.law.ensures.told

pub returns-clause-records : goal.returns-clause-records
returns-clause-records g c = subst (λ (h : TreeWithPipes). RecordsAreEvents h.state) c.self.view_is c.law.ensures.records

pub returns-clause-cookies : goal.returns-clause-cookies
returns-clause-cookies g c = subst (λ (h : TreeWithPipes). HasCookiesInTurn h.state) c.self.view_is c.law.ensures.cookies

pub returns-clause-ends : goal.returns-clause-ends
returns-clause-ends g c =
    subst
    (λ (h : TreeWithPipes).
    (id : ℕ)
    → EndsOnce (waiting_of (instance_of h.state.start.instances id))
    (raised_in h.state.start h.state.entries id))
    c.self.view_is c.law.ensures.ends

pub returns-clause-refused : goal.returns-clause-refused
returns-clause-refused g c =
    subst (λ (h : TreeWithPipes). AtEach RefusedAddsNothing h.state.start h.state.entries) c.self.view_is
    c.law.ensures.refused

pub returns-clause-with_pipe : goal.returns-clause-with_pipe
returns-clause-with_pipe g c =
    let a = c.self.inside in
    subst HasPipesOfPiped c.self.view_is (held-pipes-of-piped a.core a.pipes.numbers (sents a.pipes.ends) a.book.total c.self.invariant)

pub returns-clause-sent : goal.returns-clause-sent
returns-clause-sent g c =
    let a = c.self.inside in
    subst (λ (h : TreeWithPipes). IsSent h.state h.pipes h.sent) c.self.view_is
    (held-sends a.core a.pipes.numbers a.book.total (sents a.pipes.ends) c.self.invariant)

pub returns-clause-events : goal.returns-clause-events
returns-clause-events g c =
    let a = c.self.inside in
    subst (λ (h : TreeWithPipes). (id : ℕ) → AreOfEvents (handed_since h.state id)) c.self.view_is
    (λ id. held-events a.core a.pipes.numbers (sents a.pipes.ends) a.book.total id c.self.invariant)
