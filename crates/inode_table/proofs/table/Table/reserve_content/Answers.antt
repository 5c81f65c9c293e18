use Rattle.std.proofs.Common.{ap}
use Rattle.std.specs.Option.{option_map}
use Rattle.inode_table.specs.Rows.{What}
use Rattle.inode_table.specs.TableWorld.{world_of}
use Rattle.inode_table.proofs.ResolutionLemmas.{resolved-kept}
use Rattle.inode_table.proofs.TableWorldLemmas.{world_of-is}
use Rattle.inode_table.proofs.table.Table.reserve_content.Goals as goal

pub returns-clause-world : goal.returns-clause-world
returns-clause-world c = world_of-is (c.reserve_bytes_at.ensures.world (world_of c.args.self.now) c.rows_law.ensures.stands)

pub returns-clause-resolved : goal.returns-clause-resolved
returns-clause-resolved c =
    resolved-kept c.args.self.now c.reserve_bytes_at.new.self c.reserve_bytes_at.ensures.paths
    (world_of-is (c.reserve_bytes_at.ensures.world (world_of c.args.self.now) c.rows_law.ensures.stands))

pub returns-clause-keys : goal.returns-clause-keys
returns-clause-keys c k = ap (option_map (λ (v : What). v.number)) (c.reserve_bytes_at.ensures.nodes k)
