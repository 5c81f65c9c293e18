-- How all paths and all files of a table are found. No public clause cites this module.
use Rattle.std.specs.Prelude.{◌≡◌, ℕ, [], Some, IsTrue, unwrap_or, List, ◌∷◌, ◌++◌, map, reverse}
use Rattle.std.specs.Cmp.Lexicographic.{slice_cmp}
use Rattle.std.specs.FinMap.{find, is_sorted}
use Rattle.std.specs.List.{All}
use Rattle.std.specs.List.Sorted.{IsStrictlySortedBy}
use Rattle.std.specs.Map.{keys_of}
use Rattle.std.specs.Ordering.{nat_cmp}
use Rattle.inode_table.specs.declared.rows.FileRow.{FileRow}
use Rattle.inode_table.specs.Rows.{Rows, What, Label, Row, key_in, row_under}
use Rattle.inode_table.specs.TableWorld.{kind_of}
use Rattle.inode_table.specs.Paths.{path_cmp}
use Rattle.inode_table.specs.Flat.{names_in, number_under}

-- the paths one name longer, each with its key
abbrev pub longer : List Label → List (Label × ℕ) → List (List Label × ℕ)
longer path names = map (λ e. (path ++ e.0 ∷ [], e.1)) names

-- the number of the node at a path, and the paths one name longer go onto the stack
pub record Visits (rs : Rows) (path : List Label) (key : ℕ) (old new : List (List Label × ℕ))
    (number : ℕ) : Type 0 where
  pub row : Row
  pub here : row_under rs key ≡ Some row
  pub numbered : number ≡ row.number
  pub ordered : IsStrictlySortedBy (slice_cmp nat_cmp) (keys_of (names_in row.body))
  pub names : All (λ e. key_in row.body e.0 ≡ Some e.1) (names_in row.body)
  pub put_off : new ≡ old ++ reverse (longer path (names_in row.body))

-- the paths in order, each with the number under it, and none is missing
pub record ArePaths (rs : Rows) (found : List (List Label × ℕ)) : Type 0 where
  pub ordered : IsTrue (is_sorted path_cmp found)
  pub numbers : (p : List Label) → find path_cmp p found ≡ number_under rs p

-- what is shown of a node, as a row
abbrev pub row_shown : What → FileRow
row_shown v = record { number = v.number; kind = kind_of v.bytes; mode = v.mode; bytes = unwrap_or v.bytes [] }
