-- What is known of each number, while the batches of the entries from here on are still to be handed to it.
use Rattle.std.proofs.Common.{◌+◌, drop}
use Rattle.tree_core.specs.Tree.{Tree}
use Rattle.event_sinks.specs.Audited.{outcomes}
use Rattle.event_sinks.specs.Tracks.{track_at}
use Rattle.event_sinks.proofs.Passing.{IsPassed}
use Rattle.event_sinks.proofs.served.hand_all.Given as goal

abbrev pub invariant-loop-at : goal.invariant-loop-at
invariant-loop-at g l = (t : Tree) × IsPassed l.book (outcomes l.ended) t (l.book.state.place + l.at) (drop l.at l.book.state.entries) (track_at l.tracks)
