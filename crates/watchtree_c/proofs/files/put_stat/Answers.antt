use Rattle.std.proofs.Common.{rules}
use Rattle.watchtree_c.proofs.files.put_stat.Goals as goal

pub returns-clause-told : goal.returns-clause-told
returns-clause-told c = search rules
