use Rattle.std.proofs.Common.{◌≡◌, Some, sym, ap, subst, ◌∙◌, rules, arith}
use Rattle.std.specs.Option.{option_map}
use Rattle.std.proofs.lemmas.Grind.{common_steps}
use Rattle.inode_table.specs.Kept.{rows_of, row_of, IsTable}
use Rattle.inode_table.specs.Rows.{child, what, shown}
use Rattle.inode_table.specs.Changes.{SetsChild}
use Rattle.inode_table.proofs.RowsLemmas.{row-rows_of}
use Rattle.inode_table.proofs.ChangeLemmas.{LinksRow, IsTable-link, link-AddsPath, one_more_link, SetsEdge-child, SetsEdge-same, live-what}
use Rattle.inode_table.proofs.StandsLemmas.{SameFiles-more, Stands-with_path}
use Rattle.inode_table.specs.Recent.{Remembers}
use Rattle.inode_table.proofs.RecentLemmas.{Remembers-link}
use Rattle.inode_table.proofs.table.Table.add_name_at.Goals as goal
use Rattle.inode_table.proofs.table.Table.add_name_at.Goals.{After-set_links}

linked : (c : After-set_links) → LinksRow c.args.self.now.rows (rows_of c.set_links.new.nodes) c.args.directory c.args.name c.args.key
linked c =
    let old = c.args.self.now.rows in
    let mid = rows_of c.set_child.new.nodes in
    let same : rows_of c.self.inside.nodes ≡ old = ap (λ t. t.rows) c.self.view_is in
    let names : SetsChild old mid c.args.directory c.args.name (Some c.args.key) =
    subst (λ rs. SetsChild rs mid c.args.directory c.args.name (Some c.args.key)) same c.in_ok-set_child.ensures.ok in
    let was : what old c.args.key ≡ Some (shown (row_of c.in-Some.node.now)) =
    ap (λ rs. what rs c.args.key) (sym same)
    ∙ ap (option_map shown) (row-rows_of c.self.inside.nodes c.args.key ∙ ap (option_map row_of) (sym c.in-Some.ensures)) in
    record {
      table = subst IsTable same c.self.invariant.table;
      directory = c.requires.directory.kind;
      regular = c.requires.regular;
      there = live-what old c.args.key ∙ c.requires.there;
      free = c.requires.free;
      edge =
          SetsEdge-same (child old) (child mid) _ c.args.directory c.args.name (Some c.args.key)
          (SetsEdge-child old mid c.args.directory c.args.name (Some c.args.key) names) c.set_links.ensures.child;
      links = one_more_link old mid _ c.args.key _ was names.what c.set_links.ensures.what;
    }

pub invariant_of-self-2 : goal.invariant_of-self-2
invariant_of-self-2 c =
    record {
      table = IsTable-link (linked c) c.requires.directory.path c.requires.directory.there;
      recent =
          Remembers-link (linked c) c.requires.directory.path c.requires.directory.there
          (subst (λ rs. Remembers rs c.self.inside.recent) (ap (λ t. t.rows) c.self.view_is) c.self.invariant.recent);
    }

pub returns-clause-path : goal.returns-clause-path
returns-clause-path c = link-AddsPath (linked c)

pub returns-clause-world : goal.returns-clause-world
returns-clause-world c w p v stands there was =
    Stands-with_path (SameFiles-more _ _ _ (linked c).links) stands (IsTable-link (linked c) p there) _ _ v was (link-AddsPath (linked c) p there)

pub set_child-requires : goal.set_child-requires
set_child-requires c = search rules

pub invariant_of-self : goal.invariant_of-self
invariant_of-self c = search rules

pub returns-in_err-set_child-clause-err : goal.returns-in_err-set_child-clause-err
returns-in_err-set_child-clause-err c = search rules

pub returns-clause-links : goal.returns-clause-links
returns-clause-links c = grind (arith, common_steps)
