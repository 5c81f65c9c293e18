-- The events that notices raise for one instance, by what it watches: inotify(7), "inotify events" and "Notes".
use Rattle.std.specs.Prelude.{ℕ, ℤ, Bool, true, ◌&&◌, List, [], ◌∷◌, ◌++◌, Option, Some, None, bit_and, if◌then◌else◌}
use Rattle.std.specs.List.{filter}
use Rattle.std.specs.Option.{option_map_or}
use Rattle.record_codec.specs.declared.bits.TheConstants.{IN_ALL_EVENTS, IN_IGNORED, IN_ONESHOT}
use Rattle.record_codec.specs.declared.event.Event.{Event}
use Rattle.watch_table.specs.Masks.{has_any}
use Rattle.watch_table.specs.declared.watch.Watch.{Watch}
use Rattle.watch_table.specs.Watching.{Watching, watch_of, dropped}
use Rattle.event_rules.specs.declared.notice.TheConstants.{NO_COOKIE}
use Rattle.event_rules.specs.declared.notice.Notice.{Notice}
use Rattle.event_rules.specs.declared.notice.Notice.TheVariants.{Told, Gone}

-- ---- one notice

-- the number of the file whose watches a notice is for
abbrev pub told_number : Notice → ℕ
told_number (Told number bits cookie name) = number
told_number (Gone number) = number

-- the notices of the files that are watched
abbrev pub heard : (ℕ → Bool) → List Notice → List Notice
heard watches ns = filter (λ n. watches (told_number n)) ns

-- the bit that says what happened
abbrev pub event_bit : ℕ → ℕ
event_bit bits = bit_and bits IN_ALL_EVENTS

-- whether a watch asks for the event of these bits
abbrev pub asks_for : Watch → ℕ → Bool
asks_for watch bits = has_any watch.mask (event_bit bits)

abbrev pub is_oneshot : Watch → Bool
is_oneshot watch = has_any watch.mask IN_ONESHOT

-- whether a notice ends the watch of its file: the file lost its last path, or a one-shot watch gets its event
abbrev pub ends_watch : Notice → Watch → Bool
ends_watch (Told number bits cookie name) watch = asks_for watch bits && is_oneshot watch
ends_watch (Gone number) watch = true

-- the event that says that the watch of a descriptor has ended
abbrev pub ignored : ℤ → Event
ignored wd = record { wd = wd; mask = IN_IGNORED; cookie = NO_COOKIE; name = None }

-- the event of a notice, where the watch asks for it
abbrev pub event_told : Notice → Watch → List Event
event_told (Told number bits cookie name) watch =
    if asks_for watch bits then record { wd = watch.wd; mask = bits; cookie = cookie; name = name } ∷ [] else []
event_told (Gone number) watch = []

-- these, where a watch ends
abbrev pub where_ended : {A : Type 0} → Notice → Watch → List A → List A
where_ended n watch xs = if ends_watch n watch then xs else []

-- a watch that ends says so
abbrev pub raised_at : Notice → Option Watch → List Event
raised_at n None = []
raised_at n (Some watch) = event_told n watch ++ where_ended n watch (ignored watch.wd ∷ [])

abbrev pub ended_by : Notice → Option Watch → List ℤ
ended_by n None = []
ended_by n (Some watch) = where_ended n watch (watch.wd ∷ [])

-- the descriptors of the watches that a notice ends, and the watches that are left
unfoldable pub ended : Watching → Notice → List ℤ
ended w n = ended_by n (watch_of w (told_number n))

unfoldable pub left : Watching → Notice → Watching
left w n =
    option_map_or
    (λ watch. if ends_watch n watch then dropped w (told_number n) else w)
    (watch_of w (told_number n))
    w

-- ---- several notices, each for the watches that the ones before it left

abbrev pub events_of : Watching → List Notice → List Event
events_of w [] = []
events_of w (n ∷ ns) = raised_at n (watch_of w (told_number n)) ++ events_of (left w n) ns

abbrev pub wds_ended : Watching → List Notice → List ℤ
wds_ended w [] = []
wds_ended w (n ∷ ns) = ended w n ++ wds_ended (left w n) ns

abbrev pub watches_after : Watching → List Notice → Watching
watches_after w [] = w
watches_after w (n ∷ ns) = watches_after (left w n) ns
