use Rattle.std.specs.Prelude.{ℕ}
use Rattle.event_rules.specs.Laws.{AreTied, marks_of, moves_with}
use Rattle.tree_core.specs.Histories.{events, raised_by}
use Rattle.tree_core.specs.Journal.{now}
use Rattle.tree_core.specs.Law.{RefusedAddsNothing}
use Rattle.tree_core.specs.TurnLaws.{cookies_used}
use Rattle.tree_core.proofs.EachEntry.{at_each}
use Rattle.tree_core.proofs.state.State.law.Goals as goal

pub returns-clause-told : goal.returns-clause-told
unfolding now
returns-clause-told c id =
    let start = c.args.self.now.start in
    let entries = c.args.self.now.entries in
    let sound = c.snapshot.ensures.sound in
    record {
      order = c.reads_are_in_order.ensures start entries id sound;
      bytes = c.bytes_are_of_records.ensures start entries id c.journal.ensures.lawful;
      accounted = c.events_are_accounted_for.ensures.fates start entries id sound;
      found = c.events_are_accounted_for.ensures.found start entries id sound;
    }

pub returns-clause-cookies : goal.returns-clause-cookies
returns-clause-cookies c = record {
  turn = c.cookies_are_in_turn.ensures.turn c.args.self.now.start c.args.self.now.entries;
  ties =
      at_each (λ t d. (id : ℕ) → AreTied (moves_with (cookies_used t d)) (marks_of (events (raised_by t d id))))
      (λ t d id. c.cookies_are_in_turn.ensures.tie t d id) c.args.self.now.start c.args.self.now.entries;
}

pub returns-clause-ends : goal.returns-clause-ends
returns-clause-ends c id =
    c.watches_end_once.ensures.ends c.args.self.now.start c.args.self.now.entries id c.snapshot.ensures.sound

pub returns-clause-refused : goal.returns-clause-refused
returns-clause-refused c =
    at_each RefusedAddsNothing (λ t d refusal. (c.replies_tell.ensures t d).refused refusal) c.args.self.now.start
    c.args.self.now.entries
