-- What a call is about. No public clause cites this module.
use Rattle.std.specs.Prelude.{◌≡◌, ℕ, Bool, Option, Some, None, if◌then◌else◌}
use Rattle.inode_table.specs.declared.seen.Seen.{Seen}
use Rattle.inode_table.specs.Refusals.{parent_of}
use Rattle.inode_table.specs.TableWorld.{world_of}
use Rattle.inode_table.specs.World.{look}
use Rattle.tree_ops.specs.CallPaths.{LookupValue}

-- a path, and who knows which files may be watched
pub record SubjectValue (A : Type 0) : Type 0 where
  pub at : LookupValue
  pub audience : A

-- what is seen, if it may be watched
abbrev pub seen_watched : (ℕ → Bool) → Option Seen → Option Seen
seen_watched watches None = None
seen_watched watches (Some s) = if watches s.number then Some s else None

-- what stands at the path, and at the directory of its last name
pub record IsSubjectOf (at : LookupValue) (object directory : Option Seen) : Type 0 where
  pub stands : object ≡ look (world_of at.tree) at.path.names
  pub holds : directory ≡ look (world_of at.tree) (parent_of at.path.names)
