use Rattle.std.proofs.Common.{rules}
use Rattle.tree_core.specs.declared.reply.Reply.TheVariants as reply
use Rattle.watchtree_c.proofs.files.wt_list.Goals as goal

pub returns-in-Err : goal.returns-in-Err
returns-in-Err c = record { r = reply.Refused c.in-Err.refusal; made = search rules; is_listed = search rules }
