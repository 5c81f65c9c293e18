-- The instances that watch a file, each with its watch.
use Rattle.std.specs.Prelude.{◌≡◌, ◌≤◌, ℕ, List, length, take}
use Rattle.std.specs.FinMap.{FinMap, from_entries}
use Rattle.std.specs.List.{zip}
use Rattle.std.specs.List.Sorted.{IsStrictlySortedBy}
use Rattle.std.specs.Ordering.{nat_cmp}
use Rattle.watch_table.specs.declared.watch.Watch.{Watch}

-- watches by the numbers of the instances
abbrev pub WatchMap : Type 0
WatchMap = FinMap nat_cmp Watch

-- each number with the watch at its index
abbrev pub watchers_map : List ℕ → List Watch → WatchMap
watchers_map ids watches = from_entries (zip ids watches)

-- the numbers rise, and each has a watch
pub record AreWatchers (ids : List ℕ) (watches : List Watch) : Type 0 where
  pub rising : IsStrictlySortedBy nat_cmp ids
  pub same : length watches ≡ length ids

-- the first `n` elements of two arrays of a size are watchers: their numbers, and their watches
abbrev pub AreFew : ℕ → ℕ → List ℕ → List Watch → Type 0
AreFew size n ids watches = (n ≤ size) × (length ids ≡ size) × (length watches ≡ size)
    × AreWatchers (take n ids) (take n watches)
