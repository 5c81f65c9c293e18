use Rattle.std.proofs.Common.{arith}
use Rattle.event_sinks.specs.Tracks.{track_at}
use Rattle.event_sinks.proofs.Piped.{blank_more}
use Rattle.event_sinks.proofs.served.piped_tracks.Goals as goal

pub loop-number-preserved : goal.loop-number-preserved
loop-number-preserved c =
    blank_more c.args.pipes.now c.loop-number.number-index c.blank.result (track_at c.loop-number.tracks)
    (track_at c.put.new.tracks) (omega arith) c.blank.ensures c.in_ok-put.ensures c.loop-number.invariant
