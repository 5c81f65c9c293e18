use Rattle.tree_core.proofs.InOrder.{reads_are_in_order}
use Rattle.tree_core.proofs.queue_laws.reads_are_in_order.Goals as goal

pub returns : goal.returns
returns c = reads_are_in_order
