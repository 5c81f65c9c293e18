-- The directories that a table remembers. No public clause cites this module.
use Rattle.std.specs.Prelude.{◌≡◌, ◌≤◌, ◌==◌, ℕ, List, map, Option, Some, None, true}
use Rattle.std.specs.Prelude.{take, slice_get, if◌then◌else◌}
use Rattle.tree_paths.specs.Paths.{names_of}
use Rattle.inode_table.specs.declared.recent_directory.Slot.{Slot}
use Rattle.inode_table.specs.Walk.{walk}
use Rattle.inode_table.specs.Rows.{Label, Rows, child}
use Rattle.inode_table.specs.Kept.{IsTable, is_directory}

-- the names of a directory's path, and its key
abbrev pub Known : Type 0
Known = List Label × ℕ

-- what a slot remembers at a time
abbrev pub known_in : ℕ → Slot → Option Known
known_in time slot = if slot.time == time then Some (names_of (take slot.len slot.text), slot.key) else None

abbrev pub known_of : ℕ → List Slot → List (Option Known)
known_of time slots = map (known_in time) slots

-- the time has begun, and no slot is of a later one
pub record IsRecent (time : ℕ) (slots : List Slot) : Type 0 where
  pub begun : 1 ≤ time
  pub earlier : (i : ℕ) (slot : Slot) → slice_get slots i ≡ Some slot → slot.time ≤ time

-- the directory is remembered
abbrev pub IsKnown : List (Option Known) → List Label → ℕ → Type 0
IsKnown known path key = (i : ℕ) × (slice_get known i ≡ Some (Some (path, key)))

-- what is remembered is a directory at its path
pub record Remembers (rs : Rows) (known : List (Option Known)) : Type 0 where
  pub there : (p : List Label) (k : ℕ) → IsKnown known p k → walk (child rs) 0 p ≡ Some k
  pub kind : (p : List Label) (k : ℕ) → IsKnown known p k → is_directory rs k ≡ true

-- what is true of what every table keeps
pub record Keeps (rs : Rows) (known : List (Option Known)) : Type 0 where
  pub table : IsTable rs
  pub recent : Remembers rs known
