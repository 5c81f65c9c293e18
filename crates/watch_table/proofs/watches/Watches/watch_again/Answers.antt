use Rattle.std.proofs.Common.{◌≡◌, ℕ, Some, IsSome, sym, ap, ◌∙◌, subst, refl, w32, rules}
use Rattle.std.specs.Prelude.{option_map}
use Rattle.std.specs.BTreeMap as tree
use Rattle.std.specs.Ordering.{nat_cmp}
use Rattle.std.proofs.lemmas.Int.{to_z-of_z}
use mir.Val.{SFits}
use Rattle.watch_table.specs.declared.watch.Watch.{Watch}
use Rattle.watch_table.specs.Watching.{added, wd_of}
use Rattle.watch_table.specs.Index.{watching_of}
use Rattle.watch_table.proofs.Maps.{get-from_map}
use Rattle.watch_table.proofs.Watched.{with_bits, added-watched}
use Rattle.watch_table.proofs.Indexed.{IsIndexed-bits, watching_of-bits}
use Rattle.watch_table.proofs.watches.Watches.watch_again.Goals as goal

pub returns-in_err-watch-clause-wd : goal.returns-in_err-watch-clause-wd
returns-in_err-watch-clause-wd c =
    c.from_residual.ensures
    ∙ ap (option_map (λ (x : Watch). x.wd)) (c.in_err-watch.ensures.value ∙ sym (get-from_map c.self.inside.by_number c.args.number))
    ∙ ap (λ w. wd_of w c.args.number) c.self.view_is

pub invariant_of-self-2 : goal.invariant_of-self-2
invariant_of-self-2 c =
    let a = c.self.inside in
    let watch : Watch = c.in_ok-watch.watch.now in
    let bits : ℕ = c.next_bits-watch.result in
    let there : tree.get nat_cmp a.by_number c.args.number ≡ Some watch = sym c.in_ok-watch.ensures.value in
    let put = (c.get_mut.follows.holds (record { wd = watch.wd; mask = bits })).3 (subst (λ o. IsSome o) (sym there) refl) in
    IsIndexed-bits a c.self.invariant (c.get_mut.follows.lender (record { wd = watch.wd; mask = bits })) c.args.number watch bits put
    (get-from_map a.by_number c.args.number ∙ there)

pub returns-clause-wd : goal.returns-clause-wd
returns-clause-wd c =
    let watch : Watch = c.in_ok-watch.watch.now in
    let fits : SFits w32 watch.wd = search rules in
    ap (λ z. Some z) (to_z-of_z w32 watch.wd fits)
    ∙ ap (option_map (λ (x : Watch). x.wd)) (c.in_ok-watch.ensures.value ∙ sym (get-from_map c.self.inside.by_number c.args.number))
    ∙ ap (λ w. wd_of w c.args.number) c.self.view_is

pub returns-clause-watches : goal.returns-clause-watches
returns-clause-watches c =
    let a = c.self.inside in
    let watch : Watch = c.in_ok-watch.watch.now in
    let bits : ℕ = c.next_bits-watch.result in
    let there : tree.get nat_cmp a.by_number c.args.number ≡ Some watch = sym c.in_ok-watch.ensures.value in
    let put = (c.get_mut.follows.holds (record { wd = watch.wd; mask = bits })).3 (subst (λ o. IsSome o) (sym there) refl) in
    watching_of-bits a c.self.invariant (c.get_mut.follows.lender (record { wd = watch.wd; mask = bits })) c.args.number watch bits put
    ∙ ap (with_bits (watching_of a) c.args.number watch.wd) c.next_bits-watch.ensures
    ∙ sym (added-watched (watching_of a) c.args.number c.args.mask.0 watch (get-from_map a.by_number c.args.number ∙ there))
    ∙ ap (λ w. added w c.args.number c.args.mask.0) c.self.view_is
