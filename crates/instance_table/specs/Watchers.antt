-- The instances that watch a file, each with its watch. No public clause cites this module.
use Rattle.std.specs.Prelude.{◌≡◌, ℕ, Option, Some, None, if◌then◌else◌}
use Rattle.std.specs.Option.{unwrap_or}
use Rattle.std.specs.FinMap as map
use Rattle.watch_table.specs.declared.watch.Watch.{Watch}
use Rattle.watch_table.specs.Watching.{watch_of}
use Rattle.event_rules.specs.declared.ended.EndedWatches.{EndedWatches}
use Rattle.event_rules.specs.Staging.{is_ended}
use Rattle.file_watchers.specs.Watchers.{WatchMap}
use Rattle.instance_table.specs.declared.instance.Instance.{Instance}
use Rattle.instance_table.specs.Instances.{Instances, instance_of}

-- those of a file that may have no row
abbrev pub row_or_none : Option WatchMap → WatchMap
row_or_none row = unwrap_or row map.empty

-- a watch that may be there, if it has not ended
abbrev pub unless_ended : EndedWatches → Option Watch → Option Watch
unless_ended ended None = None
unless_ended ended (Some watch) = if is_ended ended watch then None else Some watch

-- the watch that an instance has for a file
abbrev pub watch_at : ℕ → Option Instance → Option Watch
watch_at number None = None
watch_at number (Some i) = watch_of i.watches number

-- the instances that watch a file, with their watches
abbrev pub IsRowOf : Instances → ℕ → WatchMap → Type 0
IsRowOf m number row = (id : ℕ) → map.get row id ≡ watch_at number (instance_of m id)
