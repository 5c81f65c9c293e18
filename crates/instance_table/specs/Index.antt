-- What an index of watchers notes. No public clause cites this module.
use Rattle.std.specs.Prelude.{◌≡◌, ◌≢◌, ℕ, Option, Some, true}
use Rattle.std.specs.BTreeMap as tree
use Rattle.std.specs.FinMap as map
use Rattle.std.specs.Ordering.{nat_cmp}
use Rattle.watch_table.specs.declared.watch.Watch.{Watch}
use Rattle.instance_table.specs.declared.index.Index.{Index}
use Rattle.instance_table.specs.Filters.{passes}
use Rattle.file_watchers.specs.Watchers.{WatchMap}
use Rattle.instance_table.specs.Watchers.{row_or_none}

-- the instances that are noted for a file, with their watches
abbrev pub row_under : Index → ℕ → WatchMap
row_under index number = row_or_none (tree.get nat_cmp index.watchers number)

-- the watch that is noted for a file and an instance
abbrev pub watch_noted : Index → ℕ → ℕ → Option Watch
watch_noted index number id = map.get (row_under index number) id

-- each file that has a row is watched, as none of the rows is empty, and passes the filter
abbrev pub HasSoundRows : Index → Type 0
HasSoundRows index =
    (number : ℕ) (row : WatchMap) → tree.get nat_cmp index.watchers number ≡ Some row
    → (row ≢ map.empty) × (passes index.filter number ≡ true)
