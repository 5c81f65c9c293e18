-- The world of a table: what contracts see of it.
use Rattle.std.specs.Prelude.{◌≡◌, ℕ, zero, suc, ◌<◌, IsSome, List, [], ◌∷◌, map, length, Option, Some, None, unwrap_or}
use Rattle.std.specs.List.{flat_map}
use Rattle.std.specs.Option.{option_and_then, option_map_or, option_map}
use Rattle.std.specs.Ordering.{nat_cmp}
use Rattle.std.specs.FinMap as finmap
use Rattle.inode_table.specs.Rows.{Label, Row, Rows, What, what}
use Rattle.inode_table.specs.Flat.{names_in, number_under}
use Rattle.inode_table.specs.Paths.{path_cmp}
use Rattle.inode_table.specs.Tree.{TableValue, what_at}
use Rattle.inode_table.specs.World.{World, File}
use Rattle.inode_table.specs.declared.seen.Kind.{Kind}
use Rattle.inode_table.specs.declared.seen.Kind.TheVariants.{Regular, Directory}
use Rattle.inode_table.specs.World as world

abbrev pub kind_of : Option (List ℕ) → Kind
kind_of None = Directory
kind_of (Some bytes) = Regular

abbrev pub file_of : What → world.File
file_of v = record { kind = kind_of v.bytes; mode = v.mode; bytes = unwrap_or v.bytes [] }

abbrev pub number_of : TableValue → Option ℕ → Option ℕ
number_of t o = option_and_then (λ k. option_map (λ (v : What). v.number) (what_at t k)) o

abbrev pub names_of_row : Option Row → List Label
names_of_row o = option_map_or (λ r. map (λ e. e.0) (names_in r.body)) o []

-- the names in the directories
abbrev pub names_of : Rows → List Label
names_of rs = flat_map names_of_row rs

-- the paths of these names with at most n names
abbrev pub paths_up_to : ℕ → List Label → List (List Label)
paths_up_to zero names = [] ∷ []
paths_up_to (suc n) names = [] ∷ flat_map (λ l. map (λ p. l ∷ p) (paths_up_to n names)) names

abbrev pub with_number : finmap.FinMap path_cmp ℕ → List Label → Option ℕ → finmap.FinMap path_cmp ℕ
with_number m p None = m
with_number m p (Some n) = finmap.insert m p n

-- those of the paths that lead to a file, each with its number
abbrev pub paths_among : Rows → List (List Label) → finmap.FinMap path_cmp ℕ
paths_among rs [] = finmap.empty
paths_among rs (p ∷ ps) = with_number (paths_among rs ps) p (number_under rs p)

abbrev pub with_node : finmap.FinMap nat_cmp File → Option What → finmap.FinMap nat_cmp File
with_node m None = m
with_node m (Some v) = finmap.insert m v.number (file_of v)

-- the files at the keys below k
abbrev pub files_below : Rows → ℕ → finmap.FinMap nat_cmp File
files_below rs zero = finmap.empty
files_below rs (suc k) = with_node (files_below rs k) (what rs k)

-- each path that leads to a file, with its number, and the files. A path goes through each directory once at most,
-- and so has no more names than there are rows
unfoldable pub world_in : Rows → World
world_in rs = record {
  paths = paths_among rs (paths_up_to (length rs) (names_of rs));
  files = files_below rs (length rs);
}

-- the world that contracts see of a table, whatever its capacity
abbrev pub world_of : TableValue → World
world_of t = world_in t.rows

-- a node of the table has this number, and is this file
abbrev pub IsNodeOf : TableValue → ℕ → File → Type 0
IsNodeOf t n f = (k : ℕ) × (v : What) × (what_at t k ≡ Some v) × (v.number ≡ n) × (file_of v ≡ f)

-- every number of a file is below this one
abbrev pub HasNumbersBelow : World → ℕ → Type 0
HasNumbersBelow w next = (n : ℕ) → IsSome (finmap.get w.files n) → n < next

-- the file of a key
abbrev pub file_under : TableValue → ℕ → Option File
file_under t k = option_and_then (finmap.get (world_of t).files) (number_of t (Some k))
