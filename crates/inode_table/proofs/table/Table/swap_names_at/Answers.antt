use Rattle.std.proofs.Common.{◌≡◌, Some, sym, ap, subst, ◌∙◌, rules}
use Rattle.inode_table.specs.Kept.{rows_of, is_directory, IsTable}
use Rattle.inode_table.specs.Changes.{SetsChild}
use Rattle.inode_table.proofs.ChangeLemmas.{SwapsRow, SwapsRow-from, IsTable-swap, swap-SwapsPaths}
use Rattle.std.specs.Option.{option_map}
use Rattle.inode_table.proofs.TreeLemmas.{apart_below}
use Rattle.inode_table.proofs.StandsLemmas.{named}
use Rattle.inode_table.proofs.SwapLemmas.{Stands-with_swap}
use Rattle.inode_table.specs.Recent.{Remembers}
use Rattle.inode_table.proofs.RecentLemmas.{Remembers-swap}
use Rattle.inode_table.proofs.table.Table.swap_names_at.Goals as goal
use Rattle.inode_table.proofs.table.Table.swap_names_at.Goals.{After-point_child-2}

swapped : (c : After-point_child-2)
    → SwapsRow c.args.self.now.rows (rows_of c.point_child-2.new.nodes) c.args.directory c.args.name.now c.args.other_directory
    c.args.other_name.now c.args.key c.args.other_key
swapped c =
    let old = c.args.self.now.rows in
    let first = rows_of c.point_child.new.nodes in
    let same : rows_of c.self.inside.nodes ≡ old = ap (λ t. t.rows) c.self.view_is in
    let from = c.requires.directory in
    let to = c.requires.other_directory in
    SwapsRow-from old first _ c.args.directory c.args.name.now c.args.other_directory c.args.other_name.now c.args.key c.args.other_key
    (subst IsTable same c.self.invariant.table) from.kind to.kind from.path to.path from.there to.there
    (c.requires.below from.path to.path from.there to.there)
    c.requires.there
    c.requires.other_there
    (subst (λ rs. SetsChild rs first c.args.directory c.args.name.now (Some c.args.other_key)) same c.point_child.ensures.names)
    c.point_child-2.ensures.names

pub invariant_of-self : goal.invariant_of-self
invariant_of-self c =
    let from = c.requires.directory in
    let to = c.requires.other_directory in
    let below = c.requires.below from.path to.path from.there to.there in
    let above = c.requires.above from.path to.path from.there to.there in
    let same : c.args.self.now.rows ≡ rows_of c.self.inside.nodes = ap (λ t. t.rows) (sym c.self.view_is) in
    record {
      table = IsTable-swap (swapped c) from.path to.path from.there to.there below above;
      recent =
          Remembers-swap (swapped c) from.path to.path from.there to.there below above
          (λ p k at.
          let h = c.forget_directory-2.ensures p k at in
          let g = c.forget_directory.ensures p k h.0 in
          (g.0, ap (λ rs. is_directory rs c.args.key) same ∙ g.1, ap (λ rs. is_directory rs c.args.other_key) same ∙ h.1))
          (subst (λ rs. Remembers rs c.self.inside.recent) (ap (λ t. t.rows) c.self.view_is) c.self.invariant.recent);
    }

pub returns-clause-paths : goal.returns-clause-paths
returns-clause-paths c p q to_p to_q = swap-SwapsPaths (swapped c) p q to_p to_q (c.requires.below p q to_p to_q) (c.requires.above p q to_p to_q)

pub returns-clause-world : goal.returns-clause-world
returns-clause-world c w p q stands to_p to_q =
    let from = c.requires.directory in
    let to = c.requires.other_directory in
    let below = c.requires.below p q to_p to_q in
    let above = c.requires.above p q to_p to_q in
    Stands-with_swap _ _ below above (λ s. apart_below _ _ below above s) (record { same = λ k. ap (option_map named) ((swapped c).nodes k) }) stands
    (IsTable-swap (swapped c) p q to_p to_q below above) (swap-SwapsPaths (swapped c) p q to_p to_q below above)

pub point_child-requires-2-clause-directory : goal.point_child-requires-2-clause-directory
point_child-requires-2-clause-directory c = search rules

pub point_child-requires-2-clause-there : goal.point_child-requires-2-clause-there
point_child-requires-2-clause-there c = search rules

pub returns-clause-nodes : goal.returns-clause-nodes
returns-clause-nodes c = search rules

pub returns-clause-room : goal.returns-clause-room
returns-clause-room c = search rules
