use Rattle.std.proofs.Common.{◌≡◌, Some, None, false, is_some, sym, ap, subst, ◌∙◌}
use Rattle.inode_table.specs.Rows.{child}
use Rattle.inode_table.specs.World.{without_path}
use Rattle.inode_table.specs.Stands.{Stands}
use Rattle.inode_table.specs.TableWorld.{number_of}
use Rattle.inode_table.specs.declared.seen.Seen.{Seen}
use Rattle.inode_table.proofs.TreeLemmas.{same_some}
use Rattle.inode_table.proofs.SeenLemmas.{some-and, node-at, childless}
use Rattle.inode_table.proofs.StandsLemmas.{SameFiles-loses, numbers-same}
use Rattle.inode_table.proofs.CallLemmas.{parent-there, parent-open, key-under}
use Rattle.inode_table.specs.Refusals.{parent_of}
use Rattle.inode_table.proofs.CallLemmas.{named}
use Rattle.inode_table.proofs.table.Table.take_name.Goals as goal

pub directory_at-directory-requires-clause-there : goal.directory_at-directory-requires-clause-there
directory_at-directory-requires-clause-there c =
    let s = some-and (λ (x : Seen). x.has_names ≡ false) _ c.requires.there in
    (parent-there c.args.self.now c.rows_law.ensures.table c.args.path.now.names (parent_of c.args.path.now.names) c.as_name-name.result.now
    (named c.args.path.now.names c.last_name-last.result c.as_name-name.result.now c.last_name-last.ensures c.as_name-name.ensures) (ap is_some s.1))

pub drop_name_at-requires-clause-directory : goal.drop_name_at-requires-clause-directory
drop_name_at-requires-clause-directory c =
    let s = some-and (λ (x : Seen). x.has_names ≡ false) _ c.requires.there in
    parent-open c.args.self.now c.rows_law.ensures.table c.args.path.now.names (parent_of c.args.path.now.names) c.as_name-name.result.now
    (named c.args.path.now.names c.last_name-last.result c.as_name-name.result.now c.last_name-last.ensures c.as_name-name.ensures)
    (ap is_some s.1) c.directory_at-directory.result c.directory_at-directory.ensures

pub key_at-key-requires-clause-there : goal.key_at-key-requires-clause-there
key_at-key-requires-clause-there c = ap is_some (some-and (λ (x : Seen). x.has_names ≡ false) _ c.requires.there).1

pub drop_name_at-requires-clause-there : goal.drop_name_at-requires-clause-there
drop_name_at-requires-clause-there c =
    key-under c.args.self.now c.args.path.now.names (parent_of c.args.path.now.names) c.as_name-name.result.now
    (named c.args.path.now.names c.last_name-last.result c.as_name-name.result.now c.last_name-last.ensures c.as_name-name.ensures)
    c.directory_at-directory.result c.directory_at-directory.ensures (Some c.key_at-key.result) c.key_at-key.ensures

pub drop_name_at-requires-clause-empty : goal.drop_name_at-requires-clause-empty
drop_name_at-requires-clause-empty c l =
    let t = c.args.self.now in
    let s = some-and (λ (x : Seen). x.has_names ≡ false) _ c.requires.there in
    let n = node-at t c.args.path.now.names s.0 s.1 in
    subst (λ k. child t.rows k l ≡ None) (same_some n.key c.key_at-key.result (sym n.there ∙ c.key_at-key.ensures))
    (childless t c.rows_law.ensures.table _ s.0 n s.2 l)

pub returns-clause-world : goal.returns-clause-world
returns-clause-world c w stands =
    subst (λ p. Stands c.drop_name_at.new.self (without_path w p))
    (sym (named c.args.path.now.names c.last_name-last.result c.as_name-name.result.now c.last_name-last.ensures c.as_name-name.ensures))
    (c.drop_name_at.ensures.world w (parent_of c.args.path.now.names) stands c.directory_at-directory.ensures)

pub returns-clause-number : goal.returns-clause-number
returns-clause-number c w stands =
    stands.paths c.args.path.now.names ∙ ap (number_of c.args.self.now) c.key_at-key.ensures
    ∙ sym (numbers-same (SameFiles-loses c.args.self.now c.drop_name_at.new.self _ c.drop_name_at.ensures.links) (Some c.key_at-key.result))
