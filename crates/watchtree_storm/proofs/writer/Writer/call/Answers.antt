use Rattle.std.proofs.Common.{rules, ap}
use Rattle.tree_core.specs.declared.call.Call.TheVariants as call
use Rattle.watchtree_storm.specs.Storm.{turn_at}
use Rattle.watchtree_storm.proofs.writer.Writer.call.Goals as goal
use Rattle.watchtree_storm.proofs.writer.Writer.call.Goals.{in-0, in-1+in_ok-vec-in-1, in-2, in_default}

pub returns-clause-call : goal.returns-clause-call
unfolding turn_at
returns-clause-call c = (
  c.in_ok-file.file,
  c.in_ok-moved.moved,
  search rules,
  search rules,
  ap call.File (
      elim c.match-number-rem4.branch [ in-0 w ↦ search rules | in-1+in_ok-vec-in-1 w ↦ search rules | in-2 w ↦ search rules | in_default w ↦ search rules ]),
)
