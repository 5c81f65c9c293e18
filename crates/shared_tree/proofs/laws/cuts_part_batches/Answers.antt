use Rattle.shared_tree.proofs.Wholes.{cuts-part-batches}
use Rattle.shared_tree.proofs.laws.cuts_part_batches.Goals as goal

pub returns : goal.returns
returns c = cuts-part-batches c.replies_tell.ensures
