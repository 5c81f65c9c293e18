-- The rows that a table keeps, and what is true of them. No public clause cites this module.
use Rattle.std.specs.Prelude.{◌≡◌, ℕ, Bool, false, List, map, Option, Some, is_some, is_none, vec_capacity, true}
use Rattle.std.specs.Option.{option_map, option_map_or}
use Rattle.slab.specs.Slab.{Slab}
use Rattle.inode_table.specs.declared.node.Node.{Node}
use Rattle.inode_table.specs.declared.content.Content.{Content}
use Rattle.inode_table.specs.declared.content.Content.TheVariants.{Regular, Directory}
use Rattle.inode_table.specs.Count.{IsCount}
use Rattle.inode_table.specs.Walk.{walk}
use Rattle.inode_table.specs.Rows.{Rows, What, child, what, Body, File, Names, Row, bytes_in, row_under}

module _ {N : Type 0} where
  -- a tree of directories from node 0, in which other nodes may stand under several paths. A node
  -- to which no path leads has no children
  pub record IsTree (child : ℕ → N → Option ℕ) (is_live is_directory : ℕ → Bool) : Type 0 where
    pub root : is_directory 0 ≡ true
    pub directories : (k : ℕ) → is_directory k ≡ true → is_live k ≡ true
    pub parents : (k j : ℕ) (l : N) → child k l ≡ Some j → is_directory k ≡ true
    pub reached : (k j : ℕ) (l : N) → child k l ≡ Some j → (p : List N) × (walk child 0 p ≡ Some k)
    pub children : (k j : ℕ) (l : N) → child k l ≡ Some j → is_live j ≡ true
    pub one_path : (k : ℕ) (p q : List N) → is_directory k ≡ true → walk child 0 p ≡ Some k → walk child 0 q ≡ Some k
        → p ≡ q

abbrev pub body_of : Content → Body
body_of (Regular v) = File v.items (vec_capacity v)
body_of (Directory m) = Names m.entries

abbrev pub row_of : Node → Row
row_of n = record { number = n.number; mode = n.mode; links = n.links; body = body_of n.content }

abbrev pub rows_of : Slab Node → Rows
rows_of s = map (option_map row_of) s.slots

abbrev pub is_directory_row : Row → Bool
is_directory_row r = is_none (bytes_in r.body)

abbrev pub is_directory : Rows → ℕ → Bool
is_directory rs k = option_map_or is_directory_row (row_under rs k) false

abbrev pub is_live : Rows → ℕ → Bool
is_live rs k = is_some (row_under rs k)

-- what is true of the rows of every table
pub record IsTable (rs : Rows) : Type 0 where
  pub tree : IsTree (child rs) (is_live rs) (is_directory rs)
  pub root : option_map (λ w. w.number) (what rs 0) ≡ Some 1
  pub links : (k : ℕ) (w : What) → what rs k ≡ Some w → IsCount (λ p. walk (child rs) 0 p ≡ Some k) w.links
  pub numbers : (j k : ℕ) (v w : What) → what rs j ≡ Some v → what rs k ≡ Some w → v.number ≡ w.number → j ≡ k
