use Rattle.event_rules.proofs.Removals.{removed-ended}
use Rattle.event_rules.proofs.laws.removals_leave_the_rest.Goals as goal

pub returns : goal.returns
returns c =
    removed-ended (record {
      tells = c.descriptors_tell_files.ensures;
      after_removed = c.watches_stay_sound.ensures.removed;
      after_dropped = c.watches_stay_sound.ensures.dropped;
    })
