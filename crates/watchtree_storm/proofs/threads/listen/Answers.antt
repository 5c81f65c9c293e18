use Rattle.std.proofs.Common.{rules}
use Rattle.watchtree_storm.proofs.threads.listen.Goals as goal

pub returns-then-wait : goal.returns-then-wait
returns-then-wait g c = search rules
