use Rattle.inode_table.specs.declared.seen.Kind.TheVariants.{Directory}
use Rattle.inode_table.specs.TableWorld.{world_of}
use Rattle.inode_table.specs.World.{look}
use Rattle.event_rules.proofs.Lines.{lost-lines}
use Rattle.event_rules.proofs.telling.rmdir.Goals as goal

pub returns : goal.returns
returns g c =
    lost-lines (g.A.Audience.may_watch c.args.at.now.audience) (look (world_of c.args.at.now.at.tree)) c.args.at.now.at.path.names
    c.args.told.now c.notify_path_lost.new.self c.notify_directory.new.self c.watched.result
    c.requires c.in_ok-notify_path_lost.ensures c.watched.ensures Directory c.in_ok-notify_directory.ensures
