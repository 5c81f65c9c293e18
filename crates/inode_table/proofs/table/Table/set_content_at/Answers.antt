use Rattle.std.proofs.Common.{◌≡◌, ℕ, subst, refl, sym, ap, ◌∙◌}
use Rattle.inode_table.specs.Kept.{rows_of, is_directory}
use Rattle.inode_table.specs.Rows.{Label, child}
use Rattle.inode_table.specs.Changes.{with_bytes, ChangesWhat}
use Rattle.std.specs.Option.{option_map}
use Rattle.inode_table.specs.Walk.{walk}
use Rattle.inode_table.proofs.StandsLemmas.{Stands-with_content}
use Rattle.inode_table.proofs.ChangeLemmas.{IsTable-change, KeepsKind, changes-directory, regular-what}
use Rattle.inode_table.proofs.RecentLemmas.{Remembers-edges}
use Rattle.inode_table.proofs.table.Table.set_content_at.Goals as goal

pub invariant_of-self : goal.invariant_of-self
invariant_of-self c =
    let keeps : KeepsKind (rows_of c.self.inside.nodes) c.args.key (with_bytes c.args.bytes.items) =
    record {
      number = λ w. refl;
      kind = λ w e. sym (regular-what (rows_of c.self.inside.nodes) c.args.key w e
          (ap (λ t. is_directory t.rows c.args.key) c.self.view_is ∙ c.requires.regular));
    } in
    record {
      table = IsTable-change c.set_bytes.ensures.what keeps c.self.invariant.table c.set_bytes.ensures.child (λ w. refl);
      recent = Remembers-edges c.set_bytes.ensures.child (changes-directory c.set_bytes.ensures.what keeps) c.self.invariant.recent;
    }

pub returns-clause-world : goal.returns-clause-world
returns-clause-world c w v stands was =
    let same : rows_of c.self.inside.nodes ≡ c.args.self.now.rows = ap (λ t. t.rows) c.self.view_is in
    let changes : ChangesWhat c.args.self.now.rows (rows_of c.set_bytes.new.nodes) c.args.key (with_bytes c.args.bytes.items) =
    subst (λ rs. ChangesWhat rs (rows_of c.set_bytes.new.nodes) c.args.key (with_bytes c.args.bytes.items)) same c.set_bytes.ensures.what in
    let children : (k : ℕ) (l : Label) → child (rows_of c.set_bytes.new.nodes) k l ≡ child c.args.self.now.rows k l =
    subst (λ rs. (k : ℕ) (l : Label) → child (rows_of c.set_bytes.new.nodes) k l ≡ child rs k l) same c.set_bytes.ensures.child in
    Stands-with_content stands
    (IsTable-change c.set_bytes.ensures.what
    (record {
      number = λ w. refl;
      kind = λ w e. sym (regular-what (rows_of c.self.inside.nodes) c.args.key w e
          (ap (λ t. is_directory t.rows c.args.key) c.self.view_is ∙ c.requires.regular));
    })
    c.self.invariant.table c.set_bytes.ensures.child (λ w. refl))
    c.args.key v (with_bytes c.args.bytes.items v) was (changes.here ∙ ap (option_map (with_bytes c.args.bytes.items)) was)
    refl changes.others (λ p i. walk (λ k l. children k l i) 0 p)
