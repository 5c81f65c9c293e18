-- The numbers so far have a blank track each, and there is no other one.
use Rattle.std.proofs.Common.{◌≡◌, ℕ, true, take}
use Rattle.std.specs.Prelude.{MatchOption}
use Rattle.shared_tree.specs.Pipes.{IsIn, Lacks}
use Rattle.event_sinks.specs.Tracks.{blank, track_at}
use Rattle.event_sinks.proofs.served.piped_tracks.Given as goal

abbrev pub invariant-loop-number : goal.invariant-loop-number
invariant-loop-number l =
    (n : ℕ)
    → MatchOption (track_at l.tracks n) (Lacks (take l.number-index l.pipes) n) (λ t.
    IsIn (take l.number-index l.pipes) n × (t ≡ blank true))
