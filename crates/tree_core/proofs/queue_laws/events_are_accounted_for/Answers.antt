use Rattle.tree_core.proofs.Accounts.{events_are_accounted_for}
use Rattle.tree_core.proofs.Found.{find-the-unread}
use Rattle.tree_core.proofs.queue_laws.events_are_accounted_for.Goals as goal

pub returns : goal.returns
returns c =
    let stay = c.watches_stay_sound.ensures in
    record {
      fates = events_are_accounted_for c.nothing_is_lost_unsaid.ensures
          (record {
            watches = record { opened = stay.opened; added = stay.added; removed = stay.removed; told = c.other_watches_stay.ensures.sound };
            events = c.events_are_of_watches.ensures;
            tells = c.descriptors_tell_files.ensures;
          });
      found = find-the-unread;
    }
