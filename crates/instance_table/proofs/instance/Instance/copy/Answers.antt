use Rattle.std.proofs.Common.{rules}
use Rattle.instance_table.proofs.instance.Instance.copy.Goals as goal

pub returns-clause-instance : goal.returns-clause-instance
returns-clause-instance c = search rules
