use Rattle.std.proofs.Common.{refl}
use Rattle.instance_table.proofs.Copied.{noted-copied, rows-copied}
use Rattle.instance_table.proofs.index.Index.copy.Goals as goal

pub returns-clause-noted : goal.returns-clause-noted
returns-clause-noted c = noted-copied c.args.self.now (record c.args.self.now { watchers = c.in_ok-clone.field-0 }) c.in_ok-clone.ensures.cases

pub returns-clause-rows : goal.returns-clause-rows
returns-clause-rows c = rows-copied c.args.self.now (record c.args.self.now { watchers = c.in_ok-clone.field-0 }) c.in_ok-clone.ensures.cases refl
