use Rattle.std.proofs.Common.{◌≡◌, None, sym, ap, subst, ◌∙◌}
use Rattle.inode_table.specs.Kept.{rows_of, is_directory, IsTable}
use Rattle.inode_table.specs.Rows.{child}
use Rattle.inode_table.specs.Changes.{SetsChild}
use Rattle.inode_table.proofs.ChangeLemmas.{DropsRow, IsTable-drop, drop-DropsPath, SetsEdge-child, SetsEdge-same, LosesLink-after, positive_target}
use Rattle.inode_table.proofs.StandsLemmas.{SameFiles-loses, Stands-without_path}
use Rattle.inode_table.specs.Recent.{Remembers}
use Rattle.inode_table.proofs.RecentLemmas.{Remembers-drop}
use Rattle.inode_table.proofs.table.Table.drop_name_at.Goals as goal
use Rattle.inode_table.proofs.table.Table.drop_name_at.Goals.{After-lose_any_link}

dropped : (c : After-lose_any_link) → DropsRow c.args.self.now.rows (rows_of c.lose_any_link.new.nodes) c.args.directory c.args.name.now c.args.key
dropped c =
    let old = c.args.self.now.rows in
    let mid = rows_of c.unset_child.new.nodes in
    let same : rows_of c.self.inside.nodes ≡ old = ap (λ t. t.rows) c.self.view_is in
    let names : SetsChild old mid c.args.directory c.args.name.now None =
    subst (λ rs. SetsChild rs mid c.args.directory c.args.name.now None) same c.unset_child.ensures.names in
    record {
      table = subst IsTable same c.self.invariant.table;
      directory = c.requires.directory.kind;
      edge =
          SetsEdge-same (child old) (child mid) _ c.args.directory c.args.name.now None
          (SetsEdge-child old mid c.args.directory c.args.name.now None names) c.lose_any_link.ensures.child;
      was = c.requires.there;
      empty = c.requires.empty;
      links = LosesLink-after old mid _ _ names.what c.lose_any_link.ensures.what;
    }

pub lose_any_link-requires-clause-positive : goal.lose_any_link-requires-clause-positive
lose_any_link-requires-clause-positive c k is =
    positive_target (rows_of c.self.inside.nodes) (rows_of c.unset_child.new.nodes) c.self.invariant.table
    c.unset_child.ensures.names.what c.args.directory c.args.name.now k
    (ap (λ t. child t.rows c.args.directory c.args.name.now) c.self.view_is ∙ c.requires.there ∙ is)

pub invariant_of-self : goal.invariant_of-self
invariant_of-self c =
    record {
      table = IsTable-drop (dropped c) c.requires.directory.path c.requires.directory.there;
      recent =
          Remembers-drop (dropped c) c.requires.directory.path c.requires.directory.there
          (λ p k at. let h = c.forget_directory.ensures p k at in (h.0, ap (λ t. is_directory t.rows c.args.key) (sym c.self.view_is) ∙ h.1))
          (subst (λ rs. Remembers rs c.self.inside.recent) (ap (λ t. t.rows) c.self.view_is) c.self.invariant.recent);
    }

pub returns-clause-path : goal.returns-clause-path
returns-clause-path c = drop-DropsPath (dropped c)

pub returns-clause-world : goal.returns-clause-world
returns-clause-world c w p stands there =
    Stands-without_path (SameFiles-loses _ _ _ (dropped c).links) stands
    (IsTable-drop (dropped c) c.requires.directory.path c.requires.directory.there) _ (drop-DropsPath (dropped c) p there)
