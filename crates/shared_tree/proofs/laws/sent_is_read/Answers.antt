use Rattle.shared_tree.proofs.Sent.{sent-is-read}
use Rattle.shared_tree.proofs.laws.sent_is_read.Goals as goal

pub returns : goal.returns
returns c = λ limits es lawful. sent-is-read c.replies_tell.ensures limits es lawful
