use Rattle.std.proofs.Common.{ap, ◌∙◌}
use Rattle.inode_table.specs.Tree.{TableValue}
use Rattle.inode_table.specs.TableWorld.{world_of}
use Rattle.inode_table.specs.World.{look}
use Rattle.event_rules.specs.Table.{kind_seen}
use Rattle.event_rules.proofs.Lines.{move_told-lines}
use Rattle.event_rules.proofs.telling.rename.Goals as goal

pub returns : goal.returns
returns g c =
    let old = c.args.old.now in
    let new = c.args.new.now in
    move_told-lines (g.A.Audience.may_watch old.audience) (g.A.Audience.may_watch new.audience) (look (world_of old.at.tree)) (look (world_of new.at.tree))
    old.at.path.names new.at.path.names c.args.cookie c.watched-2.result c.watched.result c.kind_seen-kind.result
    (ap g.A.Audience.may_watch c.requires.audience) (ap (λ (t : TableValue). look (world_of t)) c.requires.same)
    c.watched-2.ensures c.watched.ensures (c.kind_seen-kind.ensures ∙ ap kind_seen c.object.ensures)
    c.args.told.now c.notify_directory.new.self c.notify_directory-2.new.self c.notify_path_lost.new.self c.notify_file.new.self
    c.requires.empty c.in_ok-notify_directory.ensures c.in_ok-notify_directory-2.ensures c.in_ok-notify_path_lost.ensures c.in_ok-notify_file.ensures
