use Rattle.std.proofs.Common.{◌≡◌, None, sym}
use Rattle.tree_paths.specs.declared.limits.Limits.{Limits}
use Rattle.inode_table.specs.TableWorld.{HasNumbersBelow, world_of}
use Rattle.tree_ops.specs.declared.call.Counts.{Counts}
use Rattle.tree_ops.specs.declared.moves.Moves.{Moves}
use Rattle.tree_ops.specs.CallPaths.{ArePathsOf, PathsValue}
use Rattle.tree_ops.specs.Moves.{moves_of}
use Rattle.tree_ops.specs.ReadyCall.{IsReady}
use Rattle.tree_ops.specs.Refused.{refused}
use Rattle.tree_ops.proofs.checking.check.Goals as goal

-- a call that no row refuses is ready
is-ready : (p : PathsValue) (limits : Limits) (counts : Counts) (moves : Moves)
    → refused (world_of p.tree) limits counts p.call ≡ None → moves ≡ moves_of (world_of p.tree) p.call
    → HasNumbersBelow (world_of p.tree) counts.next_number → ArePathsOf p.tree p.call p.paths
    → IsReady p.tree (record { call = p.call; counts = counts; path = p.paths.path; other_path = p.paths.other_path; moves = moves })
is-ready p limits counts made accepted is numbers paths = record {
  limits = limits;
  accepted = accepted;
  moves = is;
  numbers = numbers;
  path = paths.path;
  other_path = paths.other_path;
  names = paths.names;
  other_names = paths.other_names;
}

pub invariant_of-result : goal.invariant_of-result
invariant_of-result c =
    is-ready c.args.paths.now c.args.limits.now c.args.counts.now c.in-Ok.moves (sym c.in-Ok.ensures.err) c.in-Ok.ensures.moves c.requires c.law.ensures

pub returns-in-Ok-clause-ready : goal.returns-in-Ok-clause-ready
returns-in-Ok-clause-ready c =
    is-ready c.args.paths.now c.args.limits.now c.args.counts.now c.in-Ok.moves (sym c.in-Ok.ensures.err) c.in-Ok.ensures.moves c.requires c.law.ensures
