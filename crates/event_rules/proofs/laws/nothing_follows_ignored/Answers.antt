use Rattle.event_rules.proofs.Followed.{HasEnded-after, Ending, events_of-HasEnded, nothing_behind, says_ended-wds, wds_ended-HasEnded}
use Rattle.event_rules.proofs.laws.nothing_follows_ignored.Goals as goal

pub returns : goal.returns
returns c =
    let ending : Ending = record {
      known = record {
        tells = c.descriptors_tell_files.ensures;
        after_removed = c.watches_stay_sound.ensures.removed;
        after_dropped = c.watches_stay_sound.ensures.dropped;
      };
      ends = c.descriptors_end_for_good.ensures.dropped;
      stays = c.descriptors_end_for_good.ensures.after_dropped;
    } in
    record {
      said = says_ended-wds;
      here = nothing_behind ending;
      left = wds_ended-HasEnded ending;
      later = events_of-HasEnded ending;
      ever = HasEnded-after ending;
    }
