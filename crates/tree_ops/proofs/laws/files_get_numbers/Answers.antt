use Rattle.tree_ops.proofs.FilesAfter.{files-numbered}
use Rattle.tree_ops.proofs.laws.files_get_numbers.Goals as goal

pub returns : goal.returns
returns c = files-numbered
