-- What is staged for an instance.
use Rattle.std.specs.Prelude.{ℕ, ℤ, Bool, ◌==◌, ◌&&◌, ◌||◌, List, Option, Some, None, if◌then◌else◌}
use Rattle.std.specs.List.{list_any}
use Rattle.record_codec.specs.declared.event.Event.{Event}
use Rattle.watch_table.specs.Masks.{has_any}
use Rattle.watch_table.specs.declared.watch.Watch.{Watch}
use Rattle.event_rules.specs.declared.ended.EndedWatches.{EndedWatches}
use Rattle.event_rules.specs.declared.notice.Notice.{Notice}
use Rattle.event_rules.specs.declared.staged.StagedEvent.{StagedEvent}
use Rattle.event_rules.specs.declared.staged.StagedEnd.{StagedEnd}
use Rattle.event_rules.specs.Raised.{ends_watch, is_oneshot, told_number}

-- an event that an instance gets
abbrev pub staged_event : ℕ → Event → StagedEvent
staged_event id e = record { id = id; event = e }

-- a watch of an instance that ends, by its descriptor
abbrev pub staged_end : ℕ → ℤ → StagedEnd
staged_end id wd = record { id = id; wd = wd }

-- one of the notices is of the file, and ends this watch of it
abbrev pub ended_before : List Notice → ℕ → Watch → Bool
ended_before ns number watch = list_any (λ n. (told_number n == number) && ends_watch n watch) ns

-- the watch of a file, where none of the notices ends it
abbrev pub left_before : List Notice → ℕ → Option Watch → Option Watch
left_before ns number None = None
left_before ns number (Some watch) = if ended_before ns number watch then None else Some watch

-- whether a watch of the file has ended
abbrev pub is_ended : EndedWatches → Watch → Bool
is_ended ended watch = ended.is_gone || (has_any watch.mask ended.bits && is_oneshot watch)
