use Rattle.std.proofs.Common.{◌≡◌, Some, None, sym, ap, ◌∙◌, subst, refl, w32, rules}
use Rattle.std.specs.Prelude.{option_map, pos}
use Rattle.std.specs.BTreeMap as tree
use Rattle.std.specs.Ordering.{int_cmp}
use Rattle.std.proofs.lemmas.Int.{to_z-of_z}
use mir.Val.{SFits}
use Rattle.watch_table.specs.declared.watch.Watch.{Watch}
use Rattle.watch_table.specs.Watching.{dropped, wd_of}
use Rattle.watch_table.specs.Index.{watching_of}
use Rattle.watch_table.proofs.Maps.{get-from_map}
use Rattle.watch_table.proofs.Indexed.{IsIndexed-same, IsIndexed-dropped, watching_of-dropped}
use Rattle.watch_table.proofs.watches.Watches.drop_file.Goals as goal

pub invariant_of-self : goal.invariant_of-self
invariant_of-self c = IsIndexed-same c.self.inside c.self.invariant c.remove.new.self c.self.inside.by_wd c.in_err-wd.ensures.unchanged (λ wd. refl)

pub returns-in_err-wd-clause-wd : goal.returns-in_err-wd-clause-wd
returns-in_err-wd-clause-wd c =
    c.from_residual.ensures
    ∙ ap (option_map (λ (x : Watch). x.wd)) (c.in_err-wd.ensures.value ∙ sym (get-from_map c.self.inside.by_number c.args.number))
    ∙ ap (λ w. wd_of w c.args.number) c.self.view_is

pub returns-in_err-wd-clause-watches : goal.returns-in_err-wd-clause-watches
returns-in_err-wd-clause-watches c =
    let a = c.self.inside in
    watching_of-dropped a c.self.invariant c.remove.new.self a.by_wd c.args.number (pos 0) c.remove.ensures.updates
    ∙ ap (λ w. dropped w c.args.number) c.self.view_is

pub invariant_of-self-2 : goal.invariant_of-self-2
invariant_of-self-2 c =
    let a = c.self.inside in
    let fits : SFits w32 c.in_ok-wd.field-0.wd = search rules in
    let taken_wd : tree.Updates int_cmp a.by_wd c.remove-2.new.self c.in_ok-wd.field-0.wd None =
    subst (λ k. tree.Updates int_cmp a.by_wd c.remove-2.new.self k None) (to_z-of_z w32 c.in_ok-wd.field-0.wd fits)
    c.remove-2.ensures.updates in
    let was : wd_of (watching_of a) c.args.number ≡ Some c.in_ok-wd.field-0.wd =
    ap (option_map (λ (x : Watch). x.wd)) (get-from_map a.by_number c.args.number ∙ sym c.in_ok-wd.ensures.value) in
    IsIndexed-dropped a c.self.invariant c.remove.new.self c.remove-2.new.self c.args.number c.in_ok-wd.field-0.wd c.remove.ensures.updates taken_wd was

pub returns-clause-wd : goal.returns-clause-wd
returns-clause-wd c =
    let fits : SFits w32 c.in_ok-wd.field-0.wd = search rules in
    ap (λ z. Some z) (to_z-of_z w32 c.in_ok-wd.field-0.wd fits)
    ∙ ap (option_map (λ (x : Watch). x.wd)) (c.in_ok-wd.ensures.value ∙ sym (get-from_map c.self.inside.by_number c.args.number))
    ∙ ap (λ w. wd_of w c.args.number) c.self.view_is

pub returns-clause-watches : goal.returns-clause-watches
returns-clause-watches c =
    let a = c.self.inside in
    watching_of-dropped a c.self.invariant c.remove.new.self c.remove-2.new.self c.args.number c.in_ok-wd.field-0.wd
    c.remove.ensures.updates
    ∙ ap (λ w. dropped w c.args.number) c.self.view_is
