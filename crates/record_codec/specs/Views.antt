-- What a view of a record shows.
use Rattle.std.specs.Prelude.{◌≡◌, ◌++◌, ℕ, List, [], Option, Some, None}
use Rattle.std.specs.Option.{option_copied}
use denote.Ref.{Bor}
use Rattle.record_codec.specs.declared.event.Event.{Event}
use Rattle.record_codec.specs.declared.view.RecordView.{RecordView}
use Rattle.record_codec.specs.Records.{AreEvents, IsEvent, record_bytes, spelling}

-- the bytes are records: those of some events
abbrev pub AreRecords : List ℕ → Type 0
AreRecords bytes = (events : List Event) × AreEvents events × (bytes ≡ spelling events)

-- the event that a view shows
abbrev pub event_seen : RecordView → Event
event_seen view = record { wd = view.wd; mask = view.mask; cookie = view.cookie; name = option_copied view.name }

-- the record that begins the bytes, and the records behind it, or that there are no bytes
abbrev pub IsNextRecord : List ℕ → Option (RecordView × Bor (List ℕ)) → Type 0
IsNextRecord bytes None = bytes ≡ []
IsNextRecord bytes (Some (view, rest)) =
    IsEvent (event_seen view) × (bytes ≡ record_bytes (event_seen view) ++ rest.now) × AreRecords rest.now
