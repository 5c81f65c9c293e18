use Rattle.inode_table.specs.TableWorld.{world_of}
use Rattle.tree_ops.proofs.Changed.{nameless-seen, regular-named}
use Rattle.tree_ops.proofs.carrying.unlink.Goals as goal

pub drop_name-requires-clause-there : goal.drop_name-requires-clause-there
drop_name-requires-clause-there c = nameless-seen (world_of c.args.table.now) c.law.ensures.world c.args.path.now.names c.requires.there c.requires.regular

pub drop_name-requires-clause-named : goal.drop_name-requires-clause-named
drop_name-requires-clause-named c = regular-named (world_of c.args.table.now) c.law.ensures.world c.args.path.now.names c.requires.regular
