-- The event queue of an inotify instance: what waits in it, and what becomes of an event that is offered to it.
use Rattle.std.specs.Prelude.{ℕ, ◌-◌, ◌≤◌, Bool, false, nat_lt, if◌then◌else◌, negsuc, List, [], ◌∷◌, ◌++◌, length}
use Rattle.std.specs.Prelude.{drop, slice_get, None, count_by}
use Rattle.std.specs.Option.{option_map_or}
use Rattle.record_codec.specs.declared.event.Event.{Event}
use Rattle.record_codec.specs.declared.bits.TheConstants.{IN_Q_OVERFLOW}
use Rattle.record_codec.specs.Equality.{event_eq}
use Rattle.tree_paths.specs.Greatest.{most}
use Rattle.event_queue.specs.declared.offered.Offered.{Offered}
use Rattle.event_queue.specs.declared.offered.Offered.TheVariants.{Kept, Merged, Marked, Lost}

-- the records that wait to be read, the oldest first, and how many may wait before events are lost
pub record Backlog : Type 0 where
  pub limit : ℕ
  pub waiting : List Event

-- a limit that a queue can have: inotify(7)'s max_queued_events
abbrev pub IsLimit : ℕ → Type 0
IsLimit limit = (1 ≤ limit) × (limit ≤ most.queue)

-- the record that says that events were lost (inotify(7), IN_Q_OVERFLOW: its wd is -1)
unfoldable pub overflow_mark : Event
overflow_mark = record { wd = negsuc 0; mask = IN_Q_OVERFLOW; cookie = 0; name = None }

unfoldable pub is_mark : Event → Bool
is_mark e = event_eq e overflow_mark

-- how many marks wait
abbrev pub marks : List Event → ℕ
marks waiting = count_by is_mark waiting

-- whether a mark waits
abbrev pub has_mark : List Event → Bool
has_mark waiting = nat_lt 0 (marks waiting)

-- whether an event is identical (the same wd, mask, cookie and name) to the last record that waits
unfoldable pub is_repeated : List Event → Event → Bool
is_repeated waiting e = option_map_or (λ last. event_eq last e) (slice_get waiting (length waiting - 1)) false

-- what becomes of an event. One identical to the last that waits is coalesced with it (inotify(7), NOTES): this is
-- looked at first. Events in excess of the limit are dropped, but an IN_Q_OVERFLOW event is always generated
-- (inotify(7), max_queued_events): one such mark waits at a time, and says it for all events that are lost while it
-- waits
unfoldable pub offered : ℕ → List Event → Event → Offered
offered limit waiting e =
    if is_repeated waiting e then Merged
    else if nat_lt (length waiting) limit then Kept
    else if has_mark waiting then Lost
    else Marked

-- the record that joins, if one does
abbrev pub joining : Offered → Event → List Event
joining Kept e = e ∷ []
joining Merged e = []
joining Marked e = overflow_mark ∷ []
joining Lost e = []

-- a queue after an event was offered
abbrev pub after_offer : Backlog → Event → Backlog
after_offer b e = record b { waiting = b.waiting ++ joining (offered b.limit b.waiting e) e }

-- a queue after its oldest record was read
abbrev pub after_take : Backlog → Backlog
after_take b = record b { waiting = drop 1 b.waiting }
