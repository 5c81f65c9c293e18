use Rattle.std.proofs.Common.{◌≡◌, None, ap, subst}
use Rattle.std.specs.Option.{option_map}
use Rattle.inode_table.specs.Kept.{rows_of, IsTable}
use Rattle.inode_table.specs.Rows.{shown}
use Rattle.inode_table.proofs.RowsLemmas.{SetsRow, SetsRow-from_updates}
use Rattle.inode_table.proofs.ChangeLemmas.{RemovesRow, IsTable-remove, remove-paths, remove-others}
use Rattle.inode_table.proofs.StandsLemmas.{Stands-without_file}
use Rattle.inode_table.specs.Recent.{Remembers}
use Rattle.inode_table.proofs.RecentLemmas.{Remembers-remove}
use Rattle.inode_table.proofs.table.Table.drop_node_at.Goals as goal
use Rattle.inode_table.proofs.table.Table.drop_node_at.Goals.{After-remove_node}

removed : (c : After-remove_node) → RemovesRow c.args.self.now.rows (rows_of c.remove_node.new.nodes) c.args.key
removed c =
    let same : rows_of c.self.inside.nodes ≡ c.args.self.now.rows = ap (λ t. t.rows) c.self.view_is in
    record {
      table = subst IsTable same c.self.invariant.table;
      lost = c.requires.lost;
      gone =
          subst (λ rs. SetsRow rs (rows_of c.remove_node.new.nodes) c.args.key None) same
          (SetsRow-from_updates c.self.inside.nodes c.remove_node.new.nodes c.args.key None c.remove_node.ensures.updates);
    }

pub invariant_of-self : goal.invariant_of-self
invariant_of-self c =
    record {
      table = IsTable-remove (removed c);
      recent =
          Remembers-remove (removed c)
          (subst (λ rs. Remembers rs c.self.inside.recent) (ap (λ t. t.rows) c.self.view_is) c.self.invariant.recent);
    }

pub returns-clause-paths : goal.returns-clause-paths
returns-clause-paths c = remove-paths (removed c)

pub returns-clause-others : goal.returns-clause-others
returns-clause-others c = remove-others (removed c)

pub returns-clause-world : goal.returns-clause-world
returns-clause-world c w v stands was =
    Stands-without_file stands (IsTable-remove (removed c)) c.args.key v was
    (ap (option_map shown) (removed c).gone.here) c.requires.lost (remove-others (removed c)) (remove-paths (removed c))
