use Rattle.std.proofs.Common.{◌≡◌, Some, None, refl, sym, ap, subst, ◌∙◌, arith}
use Rattle.std.specs.Option.{option_map}
use Rattle.std.proofs.lemmas.Grind.{common_steps}
use Rattle.inode_table.specs.Kept.{rows_of, row_of, IsTable}
use Rattle.inode_table.specs.Rows.{row_under, shown}
use Rattle.inode_table.specs.Changes.{SetsChild}
use Rattle.inode_table.specs.Tree.{what_at}
use Rattle.inode_table.proofs.RowsLemmas.{SetsRow-at, row-rows_of}
use Rattle.inode_table.proofs.ChangeLemmas.{AddsRow, IsTable-add, add-AddsPath, add-what_here, add-what_others}
use Rattle.inode_table.proofs.StandsLemmas.{Stands-with_file}
use Rattle.inode_table.specs.Recent.{Remembers}
use Rattle.inode_table.proofs.RecentLemmas.{Remembers-add}
use Rattle.inode_table.proofs.table.Table.add_node_at.Goals as goal
use Rattle.inode_table.proofs.table.Table.add_node_at.Goals.{After-insert_reserved}

added : (c : After-insert_reserved)
    → AddsRow c.args.self.now.rows (rows_of c.set_child.new.nodes) (rows_of c.insert_reserved.new.self) c.args.directory c.args.name
    c.vacant_key-key.result (row_of (record { number = c.args.number; mode = c.args.mode; links = 1; content = c.args.content }))
added c =
    let same : rows_of c.self.inside.nodes ≡ c.args.self.now.rows = ap (λ t. t.rows) c.self.view_is in
    let key : c.insert_reserved.result ≡ c.vacant_key-key.result =
    c.insert_reserved.ensures.key ∙ c.set_child.ensures.vacant_key ∙ sym c.vacant_key-key.ensures.value in
    record {
      table = subst IsTable same c.self.invariant.table;
      directory = c.requires.directory.kind;
      vacant =
          ap (λ rs. row_under rs c.vacant_key-key.result) (sym same) ∙ row-rows_of c.self.inside.nodes c.vacant_key-key.result
          ∙ ap (option_map row_of) c.vacant_key-key.ensures.vacant;
      free = c.requires.free;
      names =
          subst (λ rs. SetsChild rs (rows_of c.set_child.new.nodes) c.args.directory c.args.name (Some c.vacant_key-key.result))
          same c.in_ok-set_child.ensures.ok;
      node =
          SetsRow-at c.set_child.new.nodes c.insert_reserved.new.self c.insert_reserved.result c.vacant_key-key.result _ key
          c.insert_reserved.ensures.updates;
      empty = c.requires.empty;
    }

pub invariant_of-self-2 : goal.invariant_of-self-2
invariant_of-self-2 c =
    record {
      table = IsTable-add (added c) c.requires.directory.path c.requires.directory.there refl c.requires.unused;
      recent =
          Remembers-add (added c) c.requires.directory.path c.requires.directory.there
          (subst (λ rs. Remembers rs c.self.inside.recent) (ap (λ t. t.rows) c.self.view_is) c.self.invariant.recent);
    }

pub returns-clause-path : goal.returns-clause-path
returns-clause-path c = add-AddsPath (added c)

pub returns-clause-others : goal.returns-clause-others
returns-clause-others c = add-what_others (added c)

pub returns-clause-world : goal.returns-clause-world
returns-clause-world c w p stands there =
    Stands-with_file stands (IsTable-add (added c) c.requires.directory.path c.requires.directory.there refl c.requires.unused)
    _ _ _ (vacant c) (add-what_here (added c)) (add-what_others (added c)) (add-AddsPath (added c) p there)
  where
    vacant : (c : After-insert_reserved) → what_at c.args.self.now c.vacant_key-key.result ≡ None
    vacant c = ap (option_map shown) (added c).vacant

pub returns-clause-node : goal.returns-clause-node
returns-clause-node c = grind (arith, common_steps)
