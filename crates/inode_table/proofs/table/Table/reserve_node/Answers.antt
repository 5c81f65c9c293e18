use Rattle.std.proofs.Common.{IfSome, List, ap, rules, subst, sym, ℕ}
use Rattle.inode_table.specs.Rows.{Label}
use Rattle.inode_table.specs.Kept.{rows_of, IsTable}
use Rattle.inode_table.specs.Recent.{IsKnown}
use Rattle.inode_table.proofs.RecentLemmas.{Remembers-none}
use Rattle.inode_table.proofs.table.Table.reserve_node.Goals as goal

pub invariant_of-self-in-Some : goal.invariant_of-self-in-Some
invariant_of-self-in-Some c =
    record {
      table = subst IsTable (sym (ap rows_of c.reserve.ensures.rest_kept)) c.self.invariant.table;
      recent =
          Remembers-none (rows_of c.reserve.new.self) c.in-Some.recent
          (subst (λ o. IfSome o (λ r. (p : List Label) (k : ℕ) → IsKnown r p k → ⊥)) c.in-Some.is c.in_ok-grown.ensures.none);
    }

pub returns-in-Some-clause-room : goal.returns-in-Some-clause-room
returns-in-Some-clause-room c = search rules
