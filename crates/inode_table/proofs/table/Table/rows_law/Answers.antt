use Rattle.std.proofs.Common.{subst}
use Rattle.inode_table.specs.Kept.{IsTable}
use Rattle.inode_table.proofs.TableWorldLemmas.{Stands-world_of, look-world}
use Rattle.inode_table.proofs.table.Table.rows_law.Goals as goal

pub returns-clause-table : goal.returns-clause-table
returns-clause-table c = subst (λ t. IsTable t.rows) c.self.view_is c.self.invariant.table

pub returns-clause-stands : goal.returns-clause-stands
returns-clause-stands c = Stands-world_of c.args.self.now (returns-clause-table c)

pub returns-clause-looks : goal.returns-clause-looks
returns-clause-looks c = look-world c.args.self.now (returns-clause-table c)
