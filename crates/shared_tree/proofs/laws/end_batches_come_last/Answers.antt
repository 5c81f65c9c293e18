use Rattle.shared_tree.proofs.Ends.{ends-last}
use Rattle.shared_tree.proofs.laws.end_batches_come_last.Goals as goal

pub returns : goal.returns
returns c = λ limits es id before rest b. ends-last c.replies_tell.ensures limits es id before rest b
