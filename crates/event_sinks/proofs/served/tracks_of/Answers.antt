use Rattle.std.proofs.Common.{ap, ◌∙◌, refl, arith}
use Rattle.std.specs.Prelude.{option_map}
use Rattle.std.proofs.lemmas.Option.{slice_get-map, slice_get_read}
use Rattle.event_sinks.specs.Audited.{outcome_of, outcomes}
use Rattle.event_sinks.specs.Tracks.{track_at}
use Rattle.event_sinks.proofs.Noting.{noted_on}
use Rattle.event_sinks.proofs.served.tracks_of.Goals as goal

pub loop-at-preserved : goal.loop-at-preserved
loop-at-preserved g c =
    let one = c.index-ended-at.result in
    let at =
    slice_get-map outcome_of c.args.ended.now c.loop-at.at
    ∙ ap (option_map outcome_of)
    (slice_get_read c.args.ended.now _ c.loop-at.at one refl (omega arith) c.index-ended-at.is) in
    noted_on c.args.book.now.pipes (outcomes c.args.ended.now) c.loop-at.at c.instance.result (outcome_of one)
    (track_at c.loop-at.tracks) (track_at c.note.new.tracks) at c.instance.ensures c.in_ok-note.ensures
    c.loop-at.invariant
