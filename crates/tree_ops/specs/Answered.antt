-- What a call on files answers, whether it is accepted or refused.
use Rattle.std.specs.Prelude.{Option, Some, None, Result, Ok, Err}
use Rattle.tree_paths.specs.declared.limits.Limits.{Limits}
use Rattle.tree_paths.specs.declared.refusal.Refusal.{Refusal}
use Rattle.inode_table.specs.World.{World}
use Rattle.tree_ops.specs.declared.answer.Answer.{Answer}
use Rattle.tree_ops.specs.declared.call.Counts.{Counts}
use Rattle.tree_ops.specs.declared.call.FileCall.{FileCall}
use Rattle.tree_ops.specs.Refused.{refused}
use Rattle.tree_ops.specs.After.{answer_of}

abbrev pub answered_by : Option Refusal → Answer → Result Answer Refusal
answered_by (Some refusal) answer = Err refusal
answered_by None answer = Ok answer

-- what a call on files answers: why it is refused, or what an accepted one answers
abbrev pub answered : World → Limits → Counts → FileCall → Result Answer Refusal
answered w limits counts call = answered_by (refused w limits counts call) (answer_of w counts call)
