-- Each number that has no track among those to come was served.
use Rattle.std.proofs.Common.{◌≡◌, ℕ, []}
use Rattle.shared_tree.specs.Calls.{BookContents}
use Rattle.event_sinks.specs.Audited.{outcomes}
use Rattle.event_sinks.specs.Tracks.{IsTracked, track_at}
use Rattle.event_sinks.proofs.Walking.{IsWalked}
use Rattle.event_sinks.proofs.served.first_fault.Given as goal

abbrev pub invariant-loop-number : goal.invariant-loop-number
invariant-loop-number g l =
    (b : BookContents) → b.state.place ≡ l.cut → ((n : ℕ) → IsTracked b (outcomes l.ended) [] n (track_at l.tracks n))
    → IsWalked b (outcomes l.ended) l.number-iterator
