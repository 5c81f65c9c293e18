-- The watches of an instance in a row for each.
use Rattle.std.specs.Prelude.{ℕ, ℤ, List, map}
use Rattle.std.specs.FinMap as finmap
use Rattle.std.specs.Ordering.{int_cmp}
use Rattle.watch_table.specs.Watching.{Watching}

-- the watches by their descriptors, each with the number of its file and its bits
abbrev pub by_wd : Watching → finmap.FinMap int_cmp (ℕ × ℕ)
by_wd w = finmap.from_entries (map (λ e. (e.1.wd, (e.0, e.1.mask))) (finmap.entries w.watches))

-- the watches in the order of their descriptors: the number of the file, the descriptor and the bits
unfoldable pub watch_rows : Watching → List (ℕ × ℤ × ℕ)
watch_rows w = map (λ e. (e.1.0, e.0, e.1.1)) (finmap.entries (by_wd w))
