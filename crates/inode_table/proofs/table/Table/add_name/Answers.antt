use Rattle.std.proofs.Common.{◌++◌, ◌∷◌, [], ◌∙◌, sym, ap, subst}
use Rattle.std.specs.Option.{option_map_or}
use Rattle.inode_table.specs.Tree.{what_at}
use Rattle.inode_table.specs.World.{with_path}
use Rattle.inode_table.specs.Stands.{Stands, look_in}
use Rattle.inode_table.proofs.FindLemmas.{live-there}
use Rattle.inode_table.proofs.SeenLemmas.{is_value, free-child}
use Rattle.inode_table.proofs.StandsLemmas.{number-at}
use Rattle.inode_table.specs.TableWorld.{world_of}
use Rattle.inode_table.proofs.TableWorldLemmas.{world_of-is}
use Rattle.inode_table.specs.Refusals.{parent_of}
use Rattle.inode_table.proofs.table.Table.add_name.Goals as goal

pub add_name_at-requires-clause-free : goal.add_name_at-requires-clause-free
add_name_at-requires-clause-free c =
    free-child c.args.self.now c.rows_law.ensures.table (parent_of c.args.new.now.names) c.in_ok-name.name
    c.directory_at-directory.result c.directory_at-directory.ensures
    (ap (look_in c.args.self.now)
    ((λ i. (parent_of c.args.new.now.names) ++ c.in_ok-name.ensures.same i ∷ [])
    ∙ sym c.last_name_ref-last.ensures)
    ∙ (ap (λ l. l c.args.new.now.names) (sym c.rows_law.ensures.looks) ∙ c.requires.free))

pub returns-clause-world : goal.returns-clause-world
returns-clause-world c =
    let w = world_of c.args.self.now in
    let stands = c.rows_law.ensures.stands in
    world_of-is
    (
    let t = c.args.self.now in
    let found = c.key_at-key.ensures in
    let v = is_value (what_at t c.key_at-key.result) (live-there t c.rows_law.ensures.table c.args.old.now.names c.key_at-key.result found) in
    subst (λ o. Stands c.add_name_at.new.self (option_map_or (with_path w c.args.new.now.names) o w))
    (sym (number-at stands c.args.old.now.names c.key_at-key.result v.0 found v.1))
    (subst (λ p. Stands c.add_name_at.new.self (with_path w p v.0.number))
    ((λ i. (parent_of c.args.new.now.names) ++ c.in_ok-name.ensures.same i ∷ [])
    ∙ sym c.last_name_ref-last.ensures)
    (c.in_ok-add_name_at.ensures.world w (parent_of c.args.new.now.names) v.0 stands c.directory_at-directory.ensures v.1))
    )
