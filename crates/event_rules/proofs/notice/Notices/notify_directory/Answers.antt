use Rattle.std.proofs.Common.{◌≡◌, ◌++◌, ◌∷◌, [], refl, sym, subst, ◌∙◌}
use Rattle.inode_table.specs.Refusals.{parent_of}
use Rattle.inode_table.specs.TableWorld.{world_of}
use Rattle.inode_table.specs.World.{look}
use Rattle.event_rules.proofs.Lines.{to_dir-there}
use Rattle.event_rules.proofs.notice.Notices.notify_directory.Goals as goal

pub returns : goal.returns
returns g c =
    let p = c.args.at.now.at.path.names in
    let seen_at = look (world_of c.args.at.now.at.tree) in
    let name = c.in-Some-last_name_ref.name in
    let parts : p ≡ parent_of p ++ name ∷ [] = subst (λ q. q ≡ parent_of q ++ name ∷ []) c.as_path.ensures c.in-Some-last_name_ref.ensures.parts in
    let there = to_dir-there (g.A.Audience.may_watch c.args.at.now.audience) seen_at p (parent_of p) name c.in-Some.directory c.args.kind
    c.args.event c.args.cookie parts refl (sym c.watched_directory.ensures ∙ c.in-Some.is) in
    rw (there, ← c.about.ensures, ← c.in_ok-to_name.ensures.same) c.push.ensures
