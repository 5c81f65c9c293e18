use Rattle.std.proofs.Common.{◌≡◌, ℕ, Some, sym, ap, subst, ◌∙◌}
use Rattle.inode_table.specs.Kept.{rows_of, is_directory, IsTable}
use Rattle.inode_table.specs.Rows.{child, what}
use Rattle.inode_table.specs.Changes.{SetsChild}
use Rattle.inode_table.proofs.ChangeLemmas.{MovesRow, MovesRow-from, IsTable-move, directory-same, move-empty, move-MovesPath, positive_target}
use Rattle.inode_table.proofs.StandsLemmas.{SameFiles-loses, Stands-with_move}
use Rattle.inode_table.specs.Recent.{Remembers}
use Rattle.inode_table.proofs.RecentLemmas.{Remembers-move}
use Rattle.inode_table.proofs.table.Table.replace_name_at.Goals as goal
use Rattle.inode_table.proofs.table.Table.replace_name_at.Goals.{After-lose_any_link}

moved : (c : After-lose_any_link)
    → MovesRow c.args.self.now.rows (rows_of c.lose_any_link.new.nodes) c.args.directory c.args.name.now c.args.other_directory
    c.args.other_name c.args.key
moved c =
    let old = c.args.self.now.rows in
    let first = rows_of c.set_child.new.nodes in
    let same : rows_of c.self.inside.nodes ≡ old = ap (λ t. t.rows) c.self.view_is in
    let from = c.requires.directory in
    let to = c.requires.other_directory in
    MovesRow-from old first (rows_of c.unset_child.new.nodes) _ c.args.directory c.args.name.now c.args.other_directory
    c.args.other_name c.args.key c.args.replaced
    (subst IsTable same c.self.invariant.table) from.kind to.kind from.path to.path from.there to.there
    (c.requires.apart from.path to.path from.there to.there)
    c.requires.there
    c.requires.empty
    (subst (λ rs. SetsChild rs first c.args.other_directory c.args.other_name (Some c.args.key)) same c.in_ok-set_child.ensures.ok)
    c.unset_child.ensures.names
    c.lose_any_link.ensures.child
    (sym c.requires.replaced)
    c.lose_any_link.ensures.what

pub lose_any_link-requires-clause-positive : goal.lose_any_link-requires-clause-positive
lose_any_link-requires-clause-positive c k is =
    positive_target (rows_of c.self.inside.nodes) (rows_of c.unset_child.new.nodes) c.self.invariant.table
    (λ j. c.unset_child.ensures.names.what j ∙ c.in_ok-set_child.ensures.ok.what j)
    c.args.other_directory c.args.other_name k (ap (λ t. child t.rows c.args.other_directory c.args.other_name) c.self.view_is ∙ c.requires.replaced ∙ is)

pub invariant_of-self-2 : goal.invariant_of-self-2
invariant_of-self-2 c =
    let from = c.requires.directory in
    let to = c.requires.other_directory in
    let apart = c.requires.apart from.path to.path from.there to.there in
    let first = rows_of c.set_child.new.nodes in
    let same : (j : ℕ) → is_directory c.args.self.now.rows j ≡ is_directory first j =
    λ j. sym (directory-same c.args.self.now.rows first j (c.in_ok-set_child.ensures.ok.what j ∙ ap (λ t. what t.rows j) c.self.view_is)) in
    record {
      table = IsTable-move (moved c) from.path to.path from.there to.there apart;
      recent =
          Remembers-move (moved c) from.path to.path from.there to.there apart
          (λ p k at.
          let h = c.forget_any_directory.ensures p k at in
          let g = c.forget_directory.ensures p k h.0 in (
            g.0,
            same c.args.key ∙ g.1,
            λ j e. same j ∙ h.1 j (sym c.requires.replaced ∙ e),
          ))
          (subst (λ rs. Remembers rs c.self.inside.recent) (ap (λ t. t.rows) c.self.view_is) c.self.invariant.recent);
    }

pub returns-clause-paths : goal.returns-clause-paths
returns-clause-paths c p q to_p to_q = move-MovesPath (moved c) p q to_p to_q (c.requires.apart p q to_p to_q)

pub returns-clause-world : goal.returns-clause-world
returns-clause-world c w p q stands to_p to_q =
    let apart = c.requires.apart p q to_p to_q in
    Stands-with_move (SameFiles-loses _ _ _ (moved c).links) stands (IsTable-move (moved c) p q to_p to_q apart) _ _ apart
    (move-empty (moved c) p q to_p to_q apart) (move-MovesPath (moved c) p q to_p to_q apart)
