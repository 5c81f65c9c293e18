use Rattle.tree_core.proofs.Cookies.{cookies-tie-moves}
use Rattle.tree_core.proofs.Soundness.{trees-sound}
use Rattle.tree_core.proofs.SoundWatches.{WatchLaws}
use Rattle.tree_core.proofs.turn_laws.trees_are_sound.Goals as goal

pub returns : goal.returns
returns c =
    let watches : WatchLaws = record {
      opened = c.watches_stay_sound.ensures.opened;
      added = c.watches_stay_sound.ensures.added;
      removed = c.watches_stay_sound.ensures.removed;
      told = c.other_watches_stay.ensures.sound;
    } in
    trees-sound (record {
      watches = watches;
      world = c.worlds_stay_worlds.ensures.world;
      whole = c.worlds_stay_worlds.ensures.whole;
      opened = c.worlds_stay_worlds.ensures.opened;
      opened_whole = c.worlds_stay_worlds.ensures.opened_whole;
      numbers = c.files_get_numbers.ensures;
      told = c.lost_files_are_gone.ensures.told;
      unwatched = c.lost_files_are_gone.ensures.unwatched;
      part = c.other_watches_stay.ensures.part;
      of_watches = c.events_are_of_watches.ensures;
      bounds = c.bounds_are_kept.ensures;
      waits = record {
        ends = record {
          sound = watches;
          tells = c.descriptors_tell_files.ensures;
          ends = c.descriptors_end_for_good.ensures.removed;
          after_added = c.descriptors_end_for_good.ensures.after_added;
          after_removed = c.descriptors_end_for_good.ensures.after_removed;
          said = c.nothing_follows_ignored.ensures.said;
          here = c.nothing_follows_ignored.ensures.here;
          left = c.nothing_follows_ignored.ensures.left;
          later = c.nothing_follows_ignored.ensures.later;
          ever = c.nothing_follows_ignored.ensures.ever;
        };
        raised = record { watches = watches; events = c.events_are_of_watches.ensures; tells = c.descriptors_tell_files.ensures };
        ties = cookies-tie-moves (record { told = c.cookies_tie_moves.ensures.told; raised = c.cookies_tie_moves.ensures.raised });
        part = c.other_watches_stay.ensures.part;
      };
    })
