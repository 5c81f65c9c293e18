use Rattle.tree_core.proofs.Ends.{EndLaws, watches-end-once, descriptors-end-for-good}
use Rattle.tree_core.proofs.turn_laws.watches_end_once.Goals as goal

pub returns : goal.returns
returns c =
    let laws : EndLaws = record {
      sound = record {
        opened = c.watches_stay_sound.ensures.opened;
        added = c.watches_stay_sound.ensures.added;
        removed = c.watches_stay_sound.ensures.removed;
        told = c.other_watches_stay.ensures.sound;
      };
      tells = c.descriptors_tell_files.ensures;
      ends = c.descriptors_end_for_good.ensures.removed;
      after_added = c.descriptors_end_for_good.ensures.after_added;
      after_removed = c.descriptors_end_for_good.ensures.after_removed;
      said = c.nothing_follows_ignored.ensures.said;
      here = c.nothing_follows_ignored.ensures.here;
      left = c.nothing_follows_ignored.ensures.left;
      later = c.nothing_follows_ignored.ensures.later;
      ever = c.nothing_follows_ignored.ensures.ever;
    } in
    record { ends = watches-end-once laws; descriptors = descriptors-end-for-good laws }
