-- The watches that two maps stand for. No public clause cites this module.
use Rattle.std.specs.Prelude.{◌≡◌, ℕ, ℤ, Some, Option, None}
use Rattle.std.specs.BTreeMap as tree
use Rattle.std.specs.FinMap.{from_entries}
use Rattle.std.specs.Ordering.{int_cmp}
use Rattle.watch_table.specs.declared.watches.Watches.TheInside.{Inside}
use Rattle.watch_table.specs.declared.watch.Watch.{Watch}
use Rattle.watch_table.specs.Watching.{Watching, IsSound, wd_of}

abbrev pub bits_in : Option Watch → ℕ
bits_in None = 0
bits_in (Some watch) = watch.mask

abbrev pub watching_of : Inside → Watching
watching_of a = record {
  watches = from_entries a.by_number.entries;
  next_wd = a.next_wd;
  most_watches = a.most_watches;
  last_wd = a.last_wd;
}

-- the map from descriptors has just those of the watches
pub record IsIndexed (a : Inside) : Type 0 where
  pub sound : IsSound (watching_of a)
  pub watched : (number : ℕ) (wd : ℤ) → tree.get int_cmp a.by_wd wd ≡ Some number
      → wd_of (watching_of a) number ≡ Some wd
  pub indexed : (number : ℕ) (wd : ℤ) → wd_of (watching_of a) number ≡ Some wd
      → tree.get int_cmp a.by_wd wd ≡ Some number
