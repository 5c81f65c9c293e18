use Rattle.std.proofs.Common.{◌≡◌, ◌++◌, ◌∷◌, [], List, Some, IsSome, IfSome, true, false, sym, ap, subst, ◌∙◌}
use Rattle.inode_table.specs.Changes.{Avoids}
use Rattle.inode_table.specs.Rows.{Label}
use Rattle.inode_table.specs.Tree.{TableValue, at, what_at}
use Rattle.inode_table.specs.World.{World, with_move}
use Rattle.inode_table.specs.Refusals.{is_directory_seen}
use Rattle.inode_table.specs.Stands.{Stands, look_in}
use Rattle.inode_table.specs.TableWorld.{number_of}
use Rattle.inode_table.specs.declared.seen.Seen.{Seen}
use Rattle.inode_table.proofs.FindLemmas.{live-there}
use Rattle.inode_table.proofs.SeenLemmas.{open-directory, avoids-seen, avoids-any, empty-below}
use Rattle.inode_table.proofs.StandsLemmas.{SameFiles-loses, numbers-same}
use Rattle.inode_table.proofs.CallLemmas.{parent-there, parent-open, key-under, kept-there, if-some}
use Rattle.inode_table.specs.Refusals.{parent_of}
use Rattle.inode_table.proofs.CallLemmas.{named}
use Rattle.inode_table.proofs.table.Table.put_name.Goals as goal
use Rattle.inode_table.proofs.table.Table.put_name.Goals.{Joined-last-3}

pub directory_at-directory-requires-clause-there : goal.directory_at-directory-requires-clause-there
directory_at-directory-requires-clause-there c =
    (parent-there c.args.self.now c.rows_law.ensures.table c.args.old.now.names (parent_of c.args.old.now.names) c.as_name-name.result.now
    (named c.args.old.now.names c.last_name-last.result c.as_name-name.result.now c.last_name-last.ensures c.as_name-name.ensures) c.requires.source)

pub replace_name_at-requires-clause-directory : goal.replace_name_at-requires-clause-directory
replace_name_at-requires-clause-directory c =
    parent-open c.args.self.now c.rows_law.ensures.table c.args.old.now.names (parent_of c.args.old.now.names) c.as_name-name.result.now
    (named c.args.old.now.names c.last_name-last.result c.as_name-name.result.now c.last_name-last.ensures c.as_name-name.ensures)
    c.requires.source c.directory_at-directory.result c.directory_at-directory.ensures

pub replace_name_at-requires-clause-there : goal.replace_name_at-requires-clause-there
replace_name_at-requires-clause-there c =
    key-under c.args.self.now c.args.old.now.names (parent_of c.args.old.now.names) c.as_name-name.result.now
    (named c.args.old.now.names c.last_name-last.result c.as_name-name.result.now c.last_name-last.ensures c.as_name-name.ensures)
    c.directory_at-directory.result c.directory_at-directory.ensures (Some c.key_at-key.result) c.key_at-key.ensures

pub replace_name_at-requires-clause-replaced : goal.replace_name_at-requires-clause-replaced
replace_name_at-requires-clause-replaced c =
    key-under c.args.self.now c.args.new.now.names (parent_of c.args.new.now.names) c.in_ok-other_name.other_name
    (named c.args.new.now.names c.last_name_ref-other_last.result c.in_ok-other_name.other_name c.last_name_ref-other_last.ensures
    c.in_ok-other_name.ensures.same)
    c.directory_at-other_directory.result c.directory_at-other_directory.ensures c.key_if-replaced.result (sym c.key_if-replaced.ensures)

pub replace_name_at-requires-clause-apart : goal.replace_name_at-requires-clause-apart
replace_name_at-requires-clause-apart c p q to_p to_q =
    let t = c.args.self.now in
    let table = c.rows_law.ensures.table in
    let other_parent = parent_of c.args.new.now.names in
    let other_name = c.last_name_ref-other_last.result in
    let from = parent-open t table c.args.old.now.names (parent_of c.args.old.now.names) c.as_name-name.result.now
    (named c.args.old.now.names c.last_name-last.result c.as_name-name.result.now c.last_name-last.ensures c.as_name-name.ensures)
    c.requires.source c.directory_at-directory.result c.directory_at-directory.ensures in
    let directory : is_directory_seen (look_in t other_parent) ≡ true = c.requires.directory in
    let to = open-directory t table other_parent c.directory_at-other_directory.result c.directory_at-other_directory.ensures directory in
    let off = avoids-seen t table c.args.old.now.names c.args.new.now.names other_parent other_name
    c.last_name_ref-other_last.ensures
    c.requires.source directory c.requires.other c.requires.below in
    avoids-any t table c.directory_at-directory.result c.directory_at-other_directory.result
    (parent_of c.args.old.now.names) other_parent p q c.as_name-name.result.now c.in_ok-other_name.other_name
    c.directory_at-directory.ensures c.directory_at-other_directory.ensures from.kind to.kind to_p to_q
    (subst (λ x. Avoids x (other_parent ++ c.in_ok-other_name.other_name ∷ []))
    (named c.args.old.now.names c.last_name-last.result c.as_name-name.result.now c.last_name-last.ensures c.as_name-name.ensures)
    (subst (Avoids c.args.old.now.names)
    (c.last_name_ref-other_last.ensures
    ∙ (λ i. other_parent ++ sym c.in_ok-other_name.ensures.same i ∷ []))
    off))

pub replace_name_at-requires-clause-empty : goal.replace_name_at-requires-clause-empty
replace_name_at-requires-clause-empty c =
    let t = c.args.self.now in
    let other_parent = parent_of c.args.new.now.names in
    empty-below t c.rows_law.ensures.table other_parent c.in_ok-other_name.other_name c.directory_at-other_directory.result
    c.directory_at-other_directory.ensures
    (subst (λ x. IfSome (look_in t x) (λ (s : Seen). s.has_names ≡ false))
    (c.last_name_ref-other_last.ensures
    ∙ (λ i. other_parent ++ sym c.in_ok-other_name.ensures.same i ∷ []))
    c.requires.empty)

-- the move is that of the whole paths
after-move : (mid : TableValue) (w : World) (parent other_parent old new : List Label) (name other_name copy : Label)
    → old ≡ parent ++ name ∷ [] → new ≡ other_parent ++ other_name ∷ [] → copy ≡ other_name
    → Stands mid (with_move w (parent ++ name ∷ []) (other_parent ++ copy ∷ [])) → Stands mid (with_move w old new)
after-move mid w parent other_parent old new name other_name copy e f g h =
    subst (λ x. Stands mid (with_move w x new)) (sym e)
    (subst (λ y. Stands mid (with_move w (parent ++ name ∷ []) y)) ((λ i. other_parent ++ g i ∷ []) ∙ sym f) h)

pub returns-clause-world : goal.returns-clause-world
returns-clause-world c w stands =
    after-move c.replace_name_at.new.self w (parent_of c.args.old.now.names) (parent_of c.args.new.now.names) c.args.old.now.names
    c.args.new.now.names c.as_name-name.result.now c.last_name_ref-other_last.result c.in_ok-other_name.other_name
    (named c.args.old.now.names c.last_name-last.result c.as_name-name.result.now c.last_name-last.ensures c.as_name-name.ensures)
    c.last_name_ref-other_last.ensures
    c.in_ok-other_name.ensures.same
    (c.in_ok-replace_name_at.ensures.world w (parent_of c.args.old.now.names)
    (parent_of c.args.new.now.names) stands c.directory_at-directory.ensures c.directory_at-other_directory.ensures)

led : (c : Joined-last-3) → c.key_if-replaced.result ≡ at c.args.self.now c.args.new.now.names
led c = c.key_if-replaced.ensures

pub returns-clause-replaced : goal.returns-clause-replaced
returns-clause-replaced c = led c

pub returns-clause-there : goal.returns-clause-there
returns-clause-there c =
    let t = c.args.self.now in
    if-some (λ k. IsSome (what_at c.replace_name_at.new.self k)) c.key_if-replaced.result
    (λ k is. kept-there t c.replace_name_at.new.self _ c.in_ok-replace_name_at.ensures.links k
    (live-there t c.rows_law.ensures.table c.args.new.now.names k (sym (led c) ∙ is)))

pub returns-clause-number : goal.returns-clause-number
returns-clause-number c w stands =
    stands.paths c.args.new.now.names ∙ ap (number_of c.args.self.now) (sym (led c))
    ∙ sym (numbers-same (SameFiles-loses c.args.self.now c.replace_name_at.new.self _ c.in_ok-replace_name_at.ensures.links) c.key_if-replaced.result)
