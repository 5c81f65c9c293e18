use Rattle.std.proofs.Common.{◌≡◌, ◌≤◌, ◌++◌, ◌∷◌, List, map, fold, deque_len}
use Rattle.record_codec.specs.declared.event.Event.{Event}
use Rattle.record_codec.specs.Records.{AreEvents}
use Rattle.event_queue.specs.Backlogs.{after_offer}
use Rattle.event_rules.specs.Staging.{staged_event}
use Rattle.instance_table.proofs.staging.offer_run.Given as goal

abbrev pub invariant-loop-heard : goal.invariant-loop-heard
invariant-loop-heard l = record {
  queue : (es : List Event) × (l.fn.first ∷ l.fn.events.items ≡ map (staged_event l.id) es ++ l.events.items) × (l.queue ≡ fold after_offer l.fn.queue es);
  events : AreEvents l.fn.queue.waiting → AreEvents l.queue.waiting;
  fewer : deque_len l.events ≤ deque_len l.fn.events;
}

abbrev pub decreases-loop-heard : goal.decreases-loop-heard
decreases-loop-heard l = deque_len l.events
