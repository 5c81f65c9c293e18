use Rattle.std.proofs.Common.{rules}
use Rattle.watchtree_storm.proofs.writer.is_let_through.Goals as goal

pub loop-turn-preserved : goal.loop-turn-preserved
loop-turn-preserved g c = search rules

pub returns-clause-no : goal.returns-clause-no
returns-clause-no g c = search rules
