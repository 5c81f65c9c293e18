use Rattle.event_rules.proofs.Removals.{watch-removed}
use Rattle.event_rules.proofs.laws.removed_watches_are_left_out.Goals as goal

pub returns : goal.returns
returns c =
    watch-removed (record {
      tells = c.descriptors_tell_files.ensures;
      after_removed = c.watches_stay_sound.ensures.removed;
      after_dropped = c.watches_stay_sound.ensures.dropped;
    })
