use Rattle.tree_core.proofs.Replies.{replies-tell}
use Rattle.tree_core.proofs.turn_laws.replies_tell.Goals as goal

pub returns : goal.returns
returns c = replies-tell
