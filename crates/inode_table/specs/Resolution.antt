-- What the resolution of a path finds (POSIX.1-2017, 4.13 Pathname Resolution).
use Rattle.std.specs.Prelude.{◌≡◌, ℕ, List, Some, None, Result, IfOk, IfErr}
use Rattle.tree_paths.specs.declared.refusal.Refusal.{Refusal}
use Rattle.inode_table.specs.Rows.{Label}
use Rattle.inode_table.specs.Tree.{TableValue, at}
use Rattle.inode_table.specs.World.{look}
use Rattle.inode_table.specs.Refusals.{find, parent_of}
use Rattle.inode_table.specs.TableWorld.{world_of}

-- the names of a path, and the keys that are found at its end and in the directory of its last name
pub record ResolvedPath : Type 0 where
  pub names : List Label
  pub directory : Result ℕ Refusal
  pub here : Result ℕ Refusal

-- this is the key of what stands at the path in a table, or this is why nothing does
pub record IsFound (t : TableValue) (p : List Label) (found : Result ℕ Refusal) : Type 0 where
  pub key : IfOk found (λ key. at t p ≡ Some key)
  pub none : IfOk found (λ _. find (look (world_of t)) p ≡ None)
  pub missing : IfErr found (λ refusal. find (look (world_of t)) p ≡ Some refusal)
  pub absent : IfErr found (λ _. look (world_of t) p ≡ None)

-- a path as it is resolved on this table
pub record IsResolved (t : TableValue) (path : ResolvedPath) : Type 0 where
  pub here : IsFound t path.names path.here
  pub directory : IsFound t (parent_of path.names) path.directory
