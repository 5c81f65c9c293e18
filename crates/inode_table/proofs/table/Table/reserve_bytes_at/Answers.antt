use Rattle.std.proofs.Common.{◌≡◌, ◌∙◌, ℕ, sym, ap, subst}
use Rattle.inode_table.specs.Walk.{walk}
use Rattle.inode_table.specs.Rows.{Label, child, what}
use Rattle.inode_table.specs.Kept.{rows_of, IsTable}
use Rattle.inode_table.proofs.ChangeLemmas.{IsTable-same, directory-same}
use Rattle.inode_table.proofs.StandsLemmas.{Stands-same, look-same}
use Rattle.inode_table.specs.TableWorld.{world_of}
use Rattle.inode_table.proofs.TableWorldLemmas.{Stands-world_of}
use Rattle.inode_table.proofs.RecentLemmas.{Remembers-edges}
use Rattle.inode_table.proofs.table.Table.reserve_bytes_at.Goals as goal
use Rattle.inode_table.proofs.table.Table.reserve_bytes_at.Goals.{After-reserve_bytes}

pub invariant_of-self : goal.invariant_of-self
invariant_of-self c =
    let old = rows_of c.self.inside.nodes in
    let new = rows_of c.reserve_bytes.new.nodes in
    record {
      table = IsTable-same old new c.self.invariant.table c.reserve_bytes.ensures.child c.reserve_bytes.ensures.what;
      recent =
          Remembers-edges c.reserve_bytes.ensures.child (λ k. sym (directory-same old new k (c.reserve_bytes.ensures.what k))) c.self.invariant.recent;
    }

same : (c : After-reserve_bytes) → rows_of c.self.inside.nodes ≡ c.args.self.now.rows
same c = ap (λ t. t.rows) c.self.view_is

pub returns-clause-world : goal.returns-clause-world
returns-clause-world c w stands =
    let children : (k : ℕ) (l : Label) → child (rows_of c.reserve_bytes.new.nodes) k l ≡ child c.args.self.now.rows k l =
    subst (λ rs. (k : ℕ) (l : Label) → child (rows_of c.reserve_bytes.new.nodes) k l ≡ child rs k l) (same c) c.reserve_bytes.ensures.child in
    Stands-same (IsTable-same (rows_of c.self.inside.nodes) (rows_of c.reserve_bytes.new.nodes) c.self.invariant.table
    c.reserve_bytes.ensures.child c.reserve_bytes.ensures.what)
    (λ p i. walk (λ k l. children k l i) 0 p)
    (subst (λ rs. (k : ℕ) → what (rows_of c.reserve_bytes.new.nodes) k ≡ what rs k) (same c) c.reserve_bytes.ensures.what) stands

pub returns-clause-looks : goal.returns-clause-looks
returns-clause-looks c p =
    let t = c.args.self.now in
    let stands = Stands-world_of t (subst IsTable (same c) c.self.invariant.table) in
    sym (look-same (returns-clause-world c (world_of t) stands) p) ∙ look-same stands p
