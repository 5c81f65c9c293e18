-- The watches that were searched for last. No public clause cites this module.
use Rattle.std.specs.Prelude.{◌≡◌}
use Rattle.watch_table.specs.Watching.{Watching, watch_of}
use Rattle.event_rules.specs.declared.recent_watch.Found.{Found}
use Rattle.event_rules.specs.declared.recent_watch.Recent.{Recent}

-- it is the watch of the file
abbrev pub IsWatchOf : Watching → Found → Type 0
IsWatchOf w found = found.watch ≡ watch_of w found.number

pub record AreFound (w : Watching) (r : Recent) : Type 0 where
  pub last : IsWatchOf w r.last
  pub before : IsWatchOf w r.before
