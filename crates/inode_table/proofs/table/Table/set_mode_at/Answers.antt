use Rattle.std.proofs.Common.{◌≡◌, ℕ, subst, refl, ap, ◌∙◌}
use Rattle.inode_table.specs.Kept.{rows_of}
use Rattle.inode_table.specs.Rows.{Label, child}
use Rattle.inode_table.specs.Changes.{with_mode, ChangesWhat}
use Rattle.std.specs.Option.{option_map}
use Rattle.inode_table.specs.Walk.{walk}
use Rattle.inode_table.proofs.StandsLemmas.{Stands-with_content}
use Rattle.inode_table.proofs.ChangeLemmas.{IsTable-change, KeepsKind, changes-directory}
use Rattle.inode_table.proofs.RecentLemmas.{Remembers-edges}
use Rattle.inode_table.proofs.table.Table.set_mode_at.Goals as goal

pub invariant_of-self : goal.invariant_of-self
invariant_of-self c =
    let keeps : KeepsKind (rows_of c.self.inside.nodes) c.args.key (with_mode c.args.mode) = record { number = λ w. refl; kind = λ w e. refl } in
    record {
      table = IsTable-change c.set_mode.ensures.what keeps c.self.invariant.table c.set_mode.ensures.child (λ w. refl);
      recent = Remembers-edges c.set_mode.ensures.child (changes-directory c.set_mode.ensures.what keeps) c.self.invariant.recent;
    }

pub returns-clause-world : goal.returns-clause-world
returns-clause-world c w v stands was =
    let same : rows_of c.self.inside.nodes ≡ c.args.self.now.rows = ap (λ t. t.rows) c.self.view_is in
    let changes : ChangesWhat c.args.self.now.rows (rows_of c.set_mode.new.nodes) c.args.key (with_mode c.args.mode) =
    subst (λ rs. ChangesWhat rs (rows_of c.set_mode.new.nodes) c.args.key (with_mode c.args.mode)) same c.set_mode.ensures.what in
    let children : (k : ℕ) (l : Label) → child (rows_of c.set_mode.new.nodes) k l ≡ child c.args.self.now.rows k l =
    subst (λ rs. (k : ℕ) (l : Label) → child (rows_of c.set_mode.new.nodes) k l ≡ child rs k l) same c.set_mode.ensures.child in
    Stands-with_content stands
    (IsTable-change c.set_mode.ensures.what (record { number = λ w. refl; kind = λ w e. refl }) c.self.invariant.table c.set_mode.ensures.child (λ w. refl))
    c.args.key v (with_mode c.args.mode v) was (changes.here ∙ ap (option_map (with_mode c.args.mode)) was) refl changes.others
    (λ p i. walk (λ k l. children k l i) 0 p)
