-- What a snapshot says about a tree.
use Rattle.std.specs.Prelude.{◌≡◌, ℕ, map}
use Rattle.std.specs.FinMap as finmap
use Rattle.inode_table.specs.Files.{file_row}
use Rattle.instance_table.specs.Rows.{instance_row}
use Rattle.tree_core.specs.declared.snapshot.Snapshot.{Snapshot}
use Rattle.tree_core.specs.Tree.{Tree, cookie_now}

-- a snapshot has all that a tree has, except its limits, each map in the order of its keys; and the sequence number of
-- the last entry that led to it
pub record IsSnapshotOf (t : Tree) (place : ℕ) (s : Snapshot) : Type 0 where
  pub paths : s.paths.items ≡ finmap.entries t.world.paths
  pub files : s.files.items ≡ map file_row (finmap.entries t.world.files)
  pub instances : s.instances.items ≡ map instance_row (finmap.entries t.instances)
  pub next_number : s.next_number ≡ t.next_number
  pub next_cookie : s.next_cookie ≡ cookie_now t.next_cookie
  pub next_id : s.next_id ≡ t.next_id
  pub last_place : s.place ≡ place
