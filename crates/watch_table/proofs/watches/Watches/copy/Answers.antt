use Rattle.std.proofs.Common.{◌≡◌, ℕ, ℤ, BTreeMap, ap, ◌∙◌}
use Rattle.std.specs.BTreeMap as tree
use Rattle.std.specs.FinMap.{from_entries}
use Rattle.std.specs.Map.{lookup}
use Rattle.std.specs.Ordering.{int_cmp}
use Rattle.std.proofs.lemmas.Map.Entries.{entries_from_clone}
use Rattle.watch_table.specs.declared.watch.Watch.{Watch}
use Rattle.watch_table.specs.Index.{watching_of}
use Rattle.watch_table.proofs.Indexed.{IsIndexed-same}
use Rattle.watch_table.proofs.watches.Watches.copy.Goals as goal

-- a clone of either map has its entries
by_number-same : (m n : BTreeMap ℕ Watch) → tree.IsClone (λ x y. y ≡ x) (λ v w. w ≡ v) m n → n.entries ≡ m.entries
by_number-same m n h = entries_from_clone (λ x y. y ≡ x) (λ v w. w ≡ v) (λ x y e. e) (λ v w e. e) m.entries n.entries h

by_wd-same : (m n : BTreeMap ℤ ℕ) → tree.IsClone (λ x y. y ≡ x) (λ v w. w ≡ v) m n → n.entries ≡ m.entries
by_wd-same m n h = entries_from_clone (λ x y. y ≡ x) (λ v w. w ≡ v) (λ x y e. e) (λ v w e. e) m.entries n.entries h

pub invariant_of-result : goal.invariant_of-result
invariant_of-result c =
    let a = c.self.inside in
    let m = c.in_ok-clone.field-0 in
    let n = c.in_ok-clone-2.field-0 in
    let wds = by_wd-same a.by_wd n c.in_ok-clone-2.ensures.cases in
    IsIndexed-same a c.self.invariant m n (by_number-same a.by_number m c.in_ok-clone.ensures.cases) (λ wd. ap (lookup (tree.is_at (int_cmp wd))) wds)

pub returns-clause-watches : goal.returns-clause-watches
returns-clause-watches c =
    let a = c.self.inside in
    let m = c.in_ok-clone.field-0 in
    ap (λ es. record (watching_of a) { watches = from_entries es }) (by_number-same a.by_number m c.in_ok-clone.ensures.cases) ∙ c.self.view_is
