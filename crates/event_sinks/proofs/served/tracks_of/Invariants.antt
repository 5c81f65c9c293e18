-- What is known of each number, where the listeners so far were noted.
use Rattle.std.proofs.Common.{ℕ, take}
use Rattle.event_sinks.specs.Audited.{of_instance, outcomes}
use Rattle.event_sinks.specs.Tracks.{IsNoted, track_at}
use Rattle.event_sinks.proofs.Noting.{IsFresh}
use Rattle.event_sinks.proofs.served.tracks_of.Given as goal

abbrev pub invariant-loop-at : goal.invariant-loop-at
invariant-loop-at g l =
    (n : ℕ)
    → IsNoted l.book.pipes (outcomes l.ended) (of_instance n (take l.at (outcomes l.ended))) n (track_at l.tracks n)
    × IsFresh (track_at l.tracks n)
