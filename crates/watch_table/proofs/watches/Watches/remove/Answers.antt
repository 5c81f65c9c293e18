use Rattle.std.proofs.Common.{◌≡◌, Some, None, is_some, sym, ap, ◌∙◌, subst, refl, w32}
use Rattle.std.specs.BTreeMap as tree
use Rattle.std.specs.Map.{lookup}
use Rattle.std.specs.Ordering.{int_cmp}
use Rattle.std.proofs.lemmas.Bool.{false≢true}
use Rattle.std.proofs.lemmas.Int.{to_z-of_z}
use Rattle.watch_table.specs.Watching.{watched_by, removed}
use Rattle.watch_table.proofs.Watched.{without}
use Rattle.watch_table.specs.Index.{watching_of}
use Rattle.watch_table.proofs.Indexed.{IsIndexed-same, IsIndexed-dropped, watched_by-got, watching_of-dropped}
use Rattle.watch_table.proofs.watches.Watches.remove.Goals as goal

pub invariant_of-self : goal.invariant_of-self
invariant_of-self c =
    let a = c.self.inside in
    let wd = c.args.wd in
    let same = to_z-of_z w32 wd c.ranges.wd in
    let taken_wd : tree.Updates int_cmp a.by_wd c.remove.new.self wd None =
    subst (λ k. tree.Updates int_cmp a.by_wd c.remove.new.self k None) same c.remove.ensures.updates in
    let got : tree.get int_cmp a.by_wd wd ≡ Some c.in-Some.number = ap (tree.get int_cmp a.by_wd) (sym same) ∙ sym c.in-Some.ensures.value in
    IsIndexed-dropped a c.self.invariant c.remove-in-Some.new.self c.remove.new.self c.in-Some.number wd
    c.remove-in-Some.ensures.updates taken_wd (c.self.invariant.watched c.in-Some.number wd got)

pub invariant_of-self-in-None : goal.invariant_of-self-in-None
invariant_of-self-in-None c =
    let a = c.self.inside in
    IsIndexed-same a c.self.invariant a.by_number c.remove.new.self refl (λ v. ap (lookup (tree.is_at (int_cmp v))) c.in-None.ensures.unchanged)

pub returns-in-Some-clause-watches : goal.returns-in-Some-clause-watches
returns-in-Some-clause-watches c =
    let a = c.self.inside in
    let wd = c.args.wd in
    let got : tree.get int_cmp a.by_wd wd ≡ Some c.in-Some.number =
    ap (tree.get int_cmp a.by_wd) (sym (to_z-of_z w32 wd c.ranges.wd)) ∙ sym c.in-Some.ensures.value in
    watching_of-dropped a c.self.invariant c.remove-in-Some.new.self c.remove.new.self c.in-Some.number wd c.remove-in-Some.ensures.updates
    ∙ ap (without (watching_of a)) (sym (watched_by-got a c.self.invariant wd ∙ got))
    ∙ ap (λ w. removed w wd) c.self.view_is

pub returns-in-Some-clause-refused : goal.returns-in-Some-clause-refused
returns-in-Some-clause-refused c =
    let a = c.self.inside in
    let wd = c.args.wd in
    let got : tree.get int_cmp a.by_wd wd ≡ Some c.in-Some.number =
    ap (tree.get int_cmp a.by_wd) (sym (to_z-of_z w32 wd c.ranges.wd)) ∙ sym c.in-Some.ensures.value in
    let found : watched_by c.args.self.now wd ≡ Some c.in-Some.number =
    ap (λ w. watched_by w wd) (sym c.self.view_is) ∙ watched_by-got a c.self.invariant wd ∙ got in
    (λ e. absurd (false≢true e), λ none. sym none ∙ ap is_some found)

pub returns-in-None-clause-watches : goal.returns-in-None-clause-watches
returns-in-None-clause-watches c =
    let a = c.self.inside in
    let wd = c.args.wd in
    let got : tree.get int_cmp a.by_wd wd ≡ None = ap (tree.get int_cmp a.by_wd) (sym (to_z-of_z w32 wd c.ranges.wd)) ∙ sym c.in-None.ensures.value in
    let none : watched_by c.args.self.now wd ≡ None = ap (λ w. watched_by w wd) (sym c.self.view_is) ∙ watched_by-got a c.self.invariant wd ∙ got in
    c.self.view_is ∙ ap (without c.args.self.now) (sym none)

pub returns-in-None-clause-refused : goal.returns-in-None-clause-refused
returns-in-None-clause-refused c =
    let a = c.self.inside in
    let wd = c.args.wd in
    let got : tree.get int_cmp a.by_wd wd ≡ None = ap (tree.get int_cmp a.by_wd) (sym (to_z-of_z w32 wd c.ranges.wd)) ∙ sym c.in-None.ensures.value in
    let none : watched_by c.args.self.now wd ≡ None = ap (λ w. watched_by w wd) (sym c.self.view_is) ∙ watched_by-got a c.self.invariant wd ∙ got in
    (λ _. ap is_some none, λ _. refl)
