use Rattle.std.proofs.Common.{◌≡◌, ◌++◌, ◌∷◌, [], is_some, sym, ap, ◌∙◌, subst}
use Rattle.std.specs.Option.{option_and_then, option_map, IsSomeAnd}
use Rattle.inode_table.specs.Rows.{Row, What, child, key_in, shown}
use Rattle.inode_table.specs.Kept.{row_of}
use Rattle.inode_table.specs.World as world
use Rattle.inode_table.specs.declared.seen.Kind.TheVariants.{Directory}
use Rattle.inode_table.proofs.ChangeLemmas.{walk_end}
use Rattle.inode_table.proofs.StandsLemmas.{there-same, key_of}
use Rattle.inode_table.proofs.TableWorldLemmas.{file-under, numbered-file}
use Rattle.inode_table.proofs.table.Table.child_names.Goals as goal

pub node-requires : goal.node-requires
node-requires c = numbered-file c.args.self.now c.args.key (λ (f : world.File). f.kind ≡ Directory) c.requires.directory

pub names-requires : goal.names-requires
names-requires c =
    subst (λ o. IsSomeAnd o (λ (f : world.File). f.kind ≡ Directory))
    (file-under c.rows_law.ensures.stands c.args.key (row_of c.node.result.now) c.node.ensures) c.requires.directory

pub returns-clause-world : goal.returns-clause-world
returns-clause-world c p number =
    let stands = c.rows_law.ensures.stands in
    let v = shown (row_of c.node.result.now) in
    let is = ap (option_map shown) c.node.ensures in
    let there = key_of stands p c.args.key v is (number ∙ ap (option_map (λ (u : What). u.number)) is) in
    record {
      ordered = c.names.ensures.ordered;
      members = λ l.
          c.names.ensures.members l
          ∙ sym (there-same stands (p ++ l ∷ [])
          ∙ ap is_some (walk_end (child c.args.self.now.rows) c.args.key p l there)
          ∙ ap (λ o. is_some (option_and_then (λ (r : Row). key_in r.body l) o)) c.node.ensures);
    }
