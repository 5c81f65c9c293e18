use Rattle.std.proofs.Common.{◌≡◌, None, IfErr, sym, ap, ◌∙◌, subst}
use Rattle.inode_table.specs.Resolution.{ResolvedPath}
use Rattle.inode_table.specs.TableWorld.{world_of}
use Rattle.inode_table.specs.World.{look}
use Rattle.inode_table.proofs.FindLemmas.{there-seen}
use Rattle.inode_table.proofs.table.Table.key_if.Goals as goal

pub returns-in-Err : goal.returns-in-Err
returns-in-Err c =
    let t = c.args.self.now in
    let absent : look (world_of t) c.args.path.now.names ≡ None =
    subst (λ r. IfErr r (λ _. look (world_of t) c.args.path.now.names ≡ None))
    (sym (ap (λ (p : ResolvedPath). p.here) c.path.view_is) ∙ sym c.get.ensures ∙ c.in-Err.is) c.requires.resolved.here.absent in
    sym (there-seen t c.rows_law.ensures.table c.args.path.now.names (ap (λ l. l c.args.path.now.names) (sym c.rows_law.ensures.looks) ∙ absent))
