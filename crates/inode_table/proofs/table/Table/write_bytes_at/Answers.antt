use Rattle.std.proofs.Common.{◌≡◌, ℕ, subst, refl, ap, ◌∙◌}
use Rattle.inode_table.specs.Kept.{rows_of}
use Rattle.inode_table.specs.Rows.{Label, child}
use Rattle.inode_table.specs.Changes.{with_written, ChangesWhat}
use Rattle.std.specs.Option.{option_map}
use Rattle.inode_table.specs.Walk.{walk}
use Rattle.inode_table.proofs.StandsLemmas.{Stands-with_content}
use Rattle.inode_table.proofs.ChangeLemmas.{IsTable-change, KeepsKind, changes-directory, none-map}
use Rattle.inode_table.proofs.RecentLemmas.{Remembers-edges}
use Rattle.inode_table.proofs.table.Table.write_bytes_at.Goals as goal

pub invariant_of-self : goal.invariant_of-self
invariant_of-self c =
    let keeps : KeepsKind (rows_of c.self.inside.nodes) c.args.key (with_written c.args.offset c.args.bytes.now) =
    record { number = λ w. refl; kind = λ w e. none-map _ w.bytes } in
    record {
      table = IsTable-change c.write_bytes.ensures.what keeps c.self.invariant.table c.write_bytes.ensures.child (λ w. refl);
      recent = Remembers-edges c.write_bytes.ensures.child (changes-directory c.write_bytes.ensures.what keeps) c.self.invariant.recent;
    }

pub returns-clause-world : goal.returns-clause-world
returns-clause-world c w v stands was =
    let same : rows_of c.self.inside.nodes ≡ c.args.self.now.rows = ap (λ t. t.rows) c.self.view_is in
    let changes : ChangesWhat c.args.self.now.rows (rows_of c.write_bytes.new.nodes) c.args.key (with_written c.args.offset c.args.bytes.now) =
    subst (λ rs. ChangesWhat rs (rows_of c.write_bytes.new.nodes) c.args.key (with_written c.args.offset c.args.bytes.now))
    same c.write_bytes.ensures.what in
    let children : (k : ℕ) (l : Label) → child (rows_of c.write_bytes.new.nodes) k l ≡ child c.args.self.now.rows k l =
    subst (λ rs. (k : ℕ) (l : Label) → child (rows_of c.write_bytes.new.nodes) k l ≡ child rs k l) same c.write_bytes.ensures.child in
    let table = IsTable-change c.write_bytes.ensures.what (record { number = λ u. refl; kind = λ u e. none-map _ u.bytes })
    c.self.invariant.table c.write_bytes.ensures.child (λ u. refl) in
    Stands-with_content stands table c.args.key v (with_written c.args.offset c.args.bytes.now v) was
    (changes.here ∙ ap (option_map (with_written c.args.offset c.args.bytes.now)) was) refl changes.others (λ p i. walk (λ k l. children k l i) 0 p)
