-- A call that is ready to be carried out on a table.
use Rattle.std.specs.Prelude.{◌≡◌, None}
use Rattle.tree_paths.specs.declared.limits.Limits.{Limits}
use Rattle.inode_table.specs.Resolution.{IsResolved, ResolvedPath}
use Rattle.inode_table.specs.TableWorld.{HasNumbersBelow, world_of}
use Rattle.inode_table.specs.Tree.{TableValue}
use Rattle.tree_ops.specs.declared.call.Counts.{Counts}
use Rattle.tree_ops.specs.declared.call.FileCall.{FileCall}
use Rattle.tree_ops.specs.declared.moves.Moves.{Moves}
use Rattle.tree_ops.specs.CallPaths.{PathsValue, path_of, other_path_of}
use Rattle.tree_ops.specs.Moves.{moves_of}
use Rattle.tree_ops.specs.Refused.{refused}

-- a call, the counts that it was checked with, its paths as they were resolved, and what it moves
pub record PlanValue : Type 0 where
  pub call : FileCall
  pub counts : Counts
  pub path : ResolvedPath
  pub other_path : ResolvedPath
  pub moves : Moves

-- the plan of a call with these paths
abbrev pub plan_with : PathsValue → Counts → Moves → PlanValue
plan_with p counts moves = record {
  call = p.call;
  counts = counts;
  path = p.paths.path;
  other_path = p.paths.other_path;
  moves = moves;
}

-- a plan, and the table that it was made on
pub record ReadyValue : Type 0 where
  pub tree : TableValue
  pub plan : PlanValue

-- no row refuses the call on this table, under some limits, the number of each file is below the next one, the plan
-- says what the call moves, and the paths of the call are resolved on the table
pub record IsReady (t : TableValue) (plan : PlanValue) : Type 0 where
  pub limits : Limits
  pub accepted : refused (world_of t) limits plan.counts plan.call ≡ None
  pub moves : plan.moves ≡ moves_of (world_of t) plan.call
  pub numbers : HasNumbersBelow (world_of t) plan.counts.next_number
  pub path : IsResolved t plan.path
  pub other_path : IsResolved t plan.other_path
  pub names : plan.path.names ≡ path_of plan.call
  pub other_names : plan.other_path.names ≡ other_path_of plan.call
