use Rattle.std.proofs.Common.{sym, ap, subst, ◌∙◌}
use Rattle.inode_table.specs.Bytes.{written}
use Rattle.inode_table.specs.Tree.{what_at}
use Rattle.inode_table.specs.World.{with_content}
use Rattle.inode_table.specs.Stands.{Stands}
use Rattle.inode_table.proofs.FindLemmas.{live-there}
use Rattle.inode_table.proofs.SeenLemmas.{is_value}
use Rattle.inode_table.proofs.StandsLemmas.{changed-is}
use Rattle.inode_table.proofs.CallLemmas.{file-regular, file-mapped}
use Rattle.inode_table.specs.TableWorld.{world_of}
use Rattle.inode_table.proofs.TableWorldLemmas.{world_of-is}
use Rattle.inode_table.specs.Refusals.{is_directory_seen}
use Rattle.inode_table.proofs.table.Table.write.Goals as goal

pub returns-clause-world : goal.returns-clause-world
returns-clause-world c =
    let w = world_of c.args.self.now in
    let stands = c.rows_law.ensures.stands in
    world_of-is
    (
    let t = c.args.self.now in
    let v = is_value (what_at t c.key_at-key.result) (live-there t c.rows_law.ensures.table c.args.path.now.names c.key_at-key.result c.key_at-key.ensures) in
    let regular = file-regular t c.args.path.now.names c.key_at-key.result v.0 c.key_at-key.ensures v.1
    (ap (λ l. is_directory_seen (l c.args.path.now.names)) (sym c.rows_law.ensures.looks) ∙ c.requires.regular) in
    subst (Stands c.write_bytes_at.new.self)
    (ap (with_content w v.0.number) (file-mapped (written c.args.offset c.args.bytes.now) v.0 regular)
    ∙ sym (changed-is stands c.args.path.now.names c.key_at-key.result v.0 c.key_at-key.ensures v.1
    (λ f. record f { bytes = written c.args.offset c.args.bytes.now f.bytes })))
    (c.write_bytes_at.ensures.world w v.0 stands v.1)
    )
