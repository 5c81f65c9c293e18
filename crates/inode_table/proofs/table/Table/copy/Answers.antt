use Rattle.std.proofs.Common.{ap, ◌∙◌}
use Rattle.inode_table.specs.TableWorld.{world_of}
use Rattle.inode_table.proofs.CopyLemmas.{IsTable-copy, world-copy}
use Rattle.inode_table.specs.Kept.{rows_of}
use Rattle.inode_table.proofs.RecentLemmas.{Remembers-none}
use Rattle.inode_table.proofs.table.Table.copy.Goals as goal

pub invariant_of-result : goal.invariant_of-result
invariant_of-result c =
    record {
      table = IsTable-copy c.self.inside.nodes c.in_ok-clone.field-0 c.in_ok-clone.ensures.cases c.self.invariant.table;
      recent = Remembers-none (rows_of c.in_ok-clone.field-0) c.new.result c.new.ensures;
    }

pub returns-clause-world : goal.returns-clause-world
returns-clause-world c =
    world-copy c.self.inside.nodes c.in_ok-clone.field-0 c.in_ok-clone.ensures.cases c.self.invariant.table ∙ ap world_of c.self.view_is
