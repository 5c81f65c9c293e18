use Rattle.std.proofs.Common.{◌≡◌, ap, sym, ◌∙◌, refl, subst, IsSome, Some, None, Option, Bool, true, false, cond}
use Rattle.std.proofs.lemmas.Bool.{false≢true}
use Rattle.std.specs.BTreeMap as tree
use Rattle.std.specs.FinMap as map
use Rattle.std.specs.Ordering.{nat_cmp, eq_by_cmp}
use Rattle.file_watchers.specs.Watchers.{WatchMap}
use Rattle.instance_table.specs.Index.{HasSoundRows, watch_noted}
use Rattle.instance_table.proofs.Noted.{none-added, noted-cut, noted-off, no-row, row-is, row-some, rows-kept}
use Rattle.instance_table.proofs.index.Index.remove.Goals as goal

twice : (t : Bool) (x y : Option WatchMap) → cond t None (cond t x y) ≡ cond t None y
twice true x y = refl
twice false x y = refl

pub returns-in_default-clause-noted : goal.returns-in_default-clause-noted
returns-in_default-clause-noted c =
    noted-off c.args.self.now (record c.args.self.now { watchers = c.get_mut.follows.lender-at-none }) c.args.number c.args.id
    (sym c.in_default.ensures.value) (λ n q. ap (λ m. watch_noted (record c.args.self.now { watchers = m }) n q) c.get_mut.follows.holds-at-none)

pub returns-else-remove-clause-noted : goal.returns-else-remove-clause-noted
returns-else-remove-clause-noted c =
    let a = c.args.self.now in
    let there : tree.get nat_cmp a.watchers c.args.number ≡ Some c.in-Some.row.now = sym c.in-Some.ensures.value in
    let put = (c.get_mut.follows.holds c.remove.new.self).3 (subst (λ o. IsSome o) (sym there) refl) in
    noted-cut a (record a { watchers = c.get_mut.follows.lender c.remove.new.self }) c.args.number (Some c.remove.new.self) put.0 c.args.id
    (c.remove.ensures.rest c.if-remove.false ∙ ap (λ r. map.remove r c.args.id) (sym (row-some a c.args.number c.in-Some.row.now there)))

pub returns-then-remove-clause-noted : goal.returns-then-remove-clause-noted
returns-then-remove-clause-noted c =
    let a = c.args.self.now in
    let number = c.args.number in
    let there : tree.get nat_cmp a.watchers number ≡ Some c.in-Some.row.now = sym c.in-Some.ensures.value in
    let put = (c.get_mut.follows.holds c.remove.new.self).3 (subst (λ o. IsSome o) (sym there) refl) in
    let dropped = c.remove-then-remove.ensures.updates in
    noted-cut a (record a { watchers = c.remove-then-remove.new.self }) number None
    (λ n. dropped.0 n ∙ ap (cond (eq_by_cmp nat_cmp number n) None) (put.0 n)
    ∙ twice (eq_by_cmp nat_cmp number n) (Some c.remove.new.self) (tree.get nat_cmp a.watchers n))
    c.args.id
    (sym (c.remove.ensures.none.0 c.if-remove.true) ∙ ap (λ r. map.remove r c.args.id) (sym (row-some a number c.in-Some.row.now there)))

pub returns-in_default-clause-rows : goal.returns-in_default-clause-rows
returns-in_default-clause-rows c rows = subst (λ m. HasSoundRows (record c.args.self.now { watchers = m })) (sym c.get_mut.follows.holds-at-none) rows

pub returns-else-remove-clause-rows : goal.returns-else-remove-clause-rows
returns-else-remove-clause-rows c rows =
    let a = c.args.self.now in
    let there : tree.get nat_cmp a.watchers c.args.number ≡ Some c.in-Some.row.now = sym c.in-Some.ensures.value in
    let put = (c.get_mut.follows.holds c.remove.new.self).3 (subst (λ o. IsSome o) (sym there) refl) in
    rows-kept a (record a { watchers = c.get_mut.follows.lender c.remove.new.self }) c.args.number (Some c.remove.new.self) put.0
    (λ n added. added) (λ row e. (rows c.args.number c.in-Some.row.now there).1)
    (row-is c.remove.new.self
    (λ none. false≢true (sym c.if-remove.false ∙ c.remove.ensures.none.1 (sym (c.remove.ensures.rest c.if-remove.false) ∙ none)))) rows

pub returns-then-remove-clause-rows : goal.returns-then-remove-clause-rows
returns-then-remove-clause-rows c rows =
    let a = c.args.self.now in
    let number = c.args.number in
    let there : tree.get nat_cmp a.watchers number ≡ Some c.in-Some.row.now = sym c.in-Some.ensures.value in
    let put = (c.get_mut.follows.holds c.remove.new.self).3 (subst (λ o. IsSome o) (sym there) refl) in
    let dropped = c.remove-then-remove.ensures.updates in
    rows-kept a (record a { watchers = c.remove-then-remove.new.self }) number None
    (λ n. dropped.0 n ∙ ap (cond (eq_by_cmp nat_cmp number n) None) (put.0 n)
    ∙ twice (eq_by_cmp nat_cmp number n) (Some c.remove.new.self) (tree.get nat_cmp a.watchers n))
    (λ n added. added) (none-added a.filter number) no-row rows
