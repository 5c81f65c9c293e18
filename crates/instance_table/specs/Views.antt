-- The instances that a list of them and an index of watchers stand for. No public clause cites this module.
use Rattle.std.specs.Prelude.{◌≡◌, ℕ}
use Rattle.std.specs.List.Sorted.{IsStrictlySortedBy}
use Rattle.std.specs.Ordering.{nat_cmp}
use Rattle.instance_table.specs.declared.instances.Instances.TheInside.{Inside}
use Rattle.instance_table.specs.Index.{HasSoundRows, watch_noted}
use Rattle.instance_table.specs.Instances.{Instances, WaitingAreEvents, instance_of}
use Rattle.instance_table.specs.Opened.{by_number, ids_of}
use Rattle.instance_table.specs.Watchers.{watch_at}

abbrev pub instances_of : Inside → Instances
instances_of a = by_number a.opened.items

-- the index has exactly the watch of each instance for each file, and no row for an unwatched file; the queued records
-- are events; the instances are in strictly ascending order of their numbers
pub record NotesEveryWatch (a : Inside) : Type 0 where
  pub noted : (number id : ℕ) → watch_noted a.index number id ≡ watch_at number (instance_of (instances_of a) id)
  pub rows : HasSoundRows a.index
  pub records : WaitingAreEvents (instances_of a)
  pub rising : IsStrictlySortedBy nat_cmp (ids_of a.opened.items)
