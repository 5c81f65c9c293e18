use Rattle.std.proofs.Common.{rules}
use Rattle.tree_core.specs.declared.reply.Reply.TheVariants as reply
use Rattle.watchtree_c.proofs.files.wt_stat.Goals as goal

pub returns-in-Err : goal.returns-in-Err
returns-in-Err c = record { r = reply.Refused c.in-Err.refusal; made = search rules; is_number = search rules; is_told = search rules }
