use Rattle.event_queue.proofs.HistoryLemmas.{follows_history}
use Rattle.event_queue.proofs.laws.follows_its_history.Goals as goal

pub returns : goal.returns
returns c = follows_history
