-- The open instances of inotify(7): what each watches, and what waits in its queue.
use Rattle.std.specs.Prelude.{◌≡◌, ℕ, ℤ, Bool, false, List, [], Option, Some, None, map, fold, drop, is_some}
use Rattle.std.specs.FinMap as finmap
use Rattle.std.specs.List.{filter}
use Rattle.std.specs.Option.{option_map_or}
use Rattle.std.specs.Ordering.{nat_cmp}
use Rattle.record_codec.specs.declared.event.Event.{Event}
use Rattle.record_codec.specs.Records.{AreEvents}
use Rattle.tree_paths.specs.declared.limits.Limits.{Limits}
use Rattle.watch_table.specs.Watching.{no_watches, watch_of, added, removed}
use Rattle.event_queue.specs.Backlogs.{after_offer}
use Rattle.event_rules.specs.declared.notice.Notice.{Notice}
use Rattle.event_rules.specs.Raised.{events_of, watches_after, ignored}
use Rattle.instance_table.specs.declared.instance.Instance.{Instance}

-- the open instances by their numbers
abbrev pub Instances : Type 0
Instances = finmap.FinMap nat_cmp Instance

-- the open instance of a number
abbrev pub instance_of : Instances → ℕ → Option Instance
instance_of m id = finmap.get m id

-- the records that wait in an instance
abbrev pub waiting_of : Option Instance → List Event
waiting_of None = []
waiting_of (Some i) = i.queue.waiting

-- what waits in each instance are events: their values fit their types, and their names are names
abbrev pub WaitingAreEvents : Instances → Type 0
WaitingAreEvents m = (id : ℕ) → AreEvents (waiting_of (instance_of m id))

-- ---- changes of one instance

-- a new instance, which watches nothing (inotify_init(2))
abbrev pub new_instance : Limits → ℕ → Bool → Instance
new_instance limits limit is_piped =
    record { is_piped = is_piped; watches = no_watches limits; queue = record { limit = limit; waiting = [] } }

-- an instance after notices: it receives the events that they raise, and the watches that end are gone
abbrev pub told : List Notice → Instance → Instance
told ns i = record i { watches = watches_after i.watches ns; queue = fold after_offer i.queue (events_of i.watches ns) }

-- an instance that watches a file for the bits of a mask (inotify_add_watch(2))
abbrev pub watching : ℕ → ℕ → Instance → Instance
watching number mask i = record i { watches = added i.watches number mask }

-- an instance without the watch of a descriptor, which receives an IN_IGNORED (inotify_rm_watch(2))
abbrev pub unwatching : ℤ → Instance → Instance
unwatching wd i = record i { watches = removed i.watches wd; queue = after_offer i.queue (ignored wd) }

-- an instance whose oldest records were read
abbrev pub after_read : ℕ → Instance → Instance
after_read count i = record i { queue = record i.queue { waiting = drop count i.queue.waiting } }

-- ---- changes of all

-- the instances after a change of one of them
unfoldable pub changed : Instances → ℕ → (Instance → Instance) → Instances
changed m id change = option_map_or (λ i. finmap.insert m id (change i)) (instance_of m id) m

-- the instances after a change of each
unfoldable pub all_changed : Instances → (Instance → Instance) → Instances
all_changed m change = finmap.from_entries (map (λ e. (e.0, change e.1)) (finmap.entries m))

-- ---- who watches a file

abbrev pub watches_file : ℕ → Option Instance → Bool
watches_file number None = false
watches_file number (Some i) = is_some (watch_of i.watches number)

-- no instance watches a file
abbrev pub NobodyWatches : Instances → Type 0
NobodyWatches m = (number id : ℕ) → watches_file number (instance_of m id) ≡ false

-- the numbers of the instances that watch a file, rising
unfoldable pub watchers_of : Instances → ℕ → List ℕ
watchers_of m number = filter (λ id. watches_file number (instance_of m id)) (finmap.keys m)

-- each file that an instance watches passes a test
abbrev pub PassesWatched : (ℕ → Bool) → Instances → Type 0
PassesWatched may_watch m = (number id : ℕ) → may_watch number ≡ false → watches_file number (instance_of m id) ≡ false
