-- How the table keeps what is found at a path. No public clause cites this module.
use Rattle.std.specs.Prelude.{ℕ, ◌==◌, Result, Ok, Err, if◌then◌else◌}
use Rattle.tree_paths.specs.declared.refusal.Refusal.{Refusal}
use Rattle.tree_paths.specs.declared.refusal.Refusal.TheVariants.{Enoent, Enotdir}
use Rattle.inode_table.specs.declared.found.Found.{Found}

-- the slot of a node, or why there is none
abbrev pub found_of : Found → Result ℕ Refusal
found_of f = if f.missing == 0 then Ok f.slot else if f.missing == 1 then Err Enoent else Err Enotdir
