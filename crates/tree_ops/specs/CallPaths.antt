-- The paths of a call, as they are resolved on a table.
use Rattle.std.specs.Prelude.{◌≡◌, ℕ, List, Option, Some, None}
use Rattle.std.specs.Option.{unwrap_or}
use Rattle.inode_table.specs.Resolution.{IsResolved, ResolvedPath}
use Rattle.inode_table.specs.Tree.{TableValue}
use Rattle.tree_ops.specs.declared.call.FileCall.{FileCall}
use Rattle.tree_ops.specs.declared.call.FileCall.TheVariants.{Create, Write, ReadFile, Truncate, Chmod, Mkdir, Link}
use Rattle.tree_ops.specs.declared.call.FileCall.TheVariants.{Unlink, Rmdir, Rename, Rename2, Stat, List as Listed}

-- the path of a call, and the old one where it has two
abbrev pub path_of : FileCall → List (List ℕ)
path_of (Create p mode) = p
path_of (Mkdir p mode) = p
path_of (Write p offset bytes) = p
path_of (ReadFile p offset count) = p
path_of (Truncate p len) = p
path_of (Chmod p mode) = p
path_of (Link old new) = old
path_of (Unlink p) = p
path_of (Rmdir p) = p
path_of (Rename old new) = old
path_of (Rename2 old new flags) = old
path_of (Stat p) = p
path_of (Listed p) = p

-- the new path of a call that has two
abbrev pub new_path_of : FileCall → Option (List (List ℕ))
new_path_of (Link old new) = Some new
new_path_of (Rename old new) = Some new
new_path_of (Rename2 old new flags) = Some new
new_path_of _ = None

-- the new path of a call, and its path where it has but one
abbrev pub other_path_of : FileCall → List (List ℕ)
other_path_of call = unwrap_or (new_path_of call) (path_of call)

-- a path as it is resolved on a table
pub record LookupValue : Type 0 where
  pub tree : TableValue
  pub path : ResolvedPath

-- the path of a call, or the old one, and the new one, or the path again
pub record ResolvedPaths : Type 0 where
  pub path : ResolvedPath
  pub other_path : ResolvedPath

-- a call, and its paths as they are resolved on a table
pub record PathsValue : Type 0 where
  pub tree : TableValue
  pub call : FileCall
  pub paths : ResolvedPaths

-- these are the paths of the call, resolved on this table
pub record ArePathsOf (t : TableValue) (call : FileCall) (paths : ResolvedPaths) : Type 0 where
  pub path : IsResolved t paths.path
  pub other_path : IsResolved t paths.other_path
  pub names : paths.path.names ≡ path_of call
  pub other_names : paths.other_path.names ≡ other_path_of call
