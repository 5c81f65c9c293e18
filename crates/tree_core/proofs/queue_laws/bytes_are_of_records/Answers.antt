use Rattle.tree_core.proofs.BytesRead.{bytes_are_of_records}
use Rattle.tree_core.proofs.queue_laws.bytes_are_of_records.Goals as goal

pub returns : goal.returns
returns c = bytes_are_of_records
