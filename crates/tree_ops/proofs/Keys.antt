-- Keys of finite maps, and names.
use Rattle.std.proofs.Common.{◌≡◌, ◌≢◌, ◌⊎◌, inl, inr, Bool, true, false, cond, Some, None, refl, sym, ap, ◌∙◌}
use Rattle.std.specs.Ordering.{nat_cmp, eq_by_cmp, is_eq}
use Rattle.std.specs.declared.cmp.Ordering.{Ordering}
use Rattle.std.specs.declared.cmp.Ordering.TheVariants.{Less, Equal, Greater}
use Rattle.std.specs.Cmp.{IsTotalOrder, tied_itself}
use Rattle.std.specs.Cmp.Lexicographic.{slice_cmp, lists_total, nat_list_cmp_total}
use Rattle.std.specs.FinMap as finmap
use Rattle.std.specs.FinMap.{FinMap, IsAntisymmetric, get-insert, get-remove, nat_cmp-IsAntisymmetric, slice_cmp-IsAntisymmetric}
use Rattle.inode_table.specs.Paths.{path_cmp}

module _ {K : Type 0} {R : K → K → Ordering} (total : IsTotalOrder R) (exact : IsAntisymmetric R) where
  -- a key is another one, and the test says so
  pub tie : (q k : K) → ((q ≡ k) × (eq_by_cmp R q k ≡ true)) ⊎ ((q ≢ k) × (eq_by_cmp R q k ≡ false))
  tie q k =
      elim (R q k) as (λ o. R q k ≡ o → ((q ≡ k) × (is_eq o ≡ true)) ⊎ ((q ≢ k) × (is_eq o ≡ false))) [
        | Less ↦ λ e. inr (λ is. let same : R q k ≡ Equal = ap (R q) (sym is) ∙ tied_itself total q in cc, refl)
        | Equal ↦ λ e. inl (exact q k e, refl)
        | Greater ↦ λ e. inr (λ is. let same : R q k ≡ Equal = ap (R q) (sym is) ∙ tied_itself total q in cc, refl)
      ] refl

  pub tested : (q k : K) → eq_by_cmp R q k ≡ true → q ≡ k
  tested q k e = elim (tie q k) [ inl w ↦ w.0 | inr w ↦ absurd (let clash : true ≡ false = sym e ∙ w.1 in cc) ]

  pub itself : (q k : K) → q ≡ k → eq_by_cmp R q k ≡ true
  itself q k is = elim (tie q k) [ inl w ↦ w.1 | inr w ↦ absurd (w.0 is) ]

  -- what is under a key after an insertion is new, or it was there
  pub get-insert_either : {X : Type 0} (m : FinMap R X) (k q : K) (v x : X) → finmap.get (finmap.insert m k v) q ≡ Some x → (q ≡ k) ⊎ (finmap.get m q ≡ Some x)
  get-insert_either m k q v x e = elim (tie q k) [
    | inl w ↦ inl w.0
    | inr w ↦ inr (sym (get-insert total m k v q ∙ ap (λ b. cond b (Some v) (finmap.get m q)) w.1) ∙ e)
  ]

-- what is under a key after a removal was there
pub get-remove_was : {K : Type 0} {R : K → K → Ordering} (total : IsTotalOrder R) {X : Type 0} (m : FinMap R X) (k q : K) (x : X)
    → finmap.get (finmap.remove m k) q ≡ Some x → finmap.get m q ≡ Some x
get-remove_was {R = R} total m k q x e = by (eq_by_cmp R q k) (sym (get-remove total m k q) ∙ e)
  where
    by : (b : Bool) → cond b None (finmap.get m q) ≡ Some x → finmap.get m q ≡ Some x
    by true f = absurd (cc)
    by false f = f

pub name_exact : IsAntisymmetric (slice_cmp nat_cmp)
name_exact = slice_cmp-IsAntisymmetric nat_cmp-IsAntisymmetric

pub path_total : IsTotalOrder path_cmp
path_total = lists_total nat_list_cmp_total

pub path_exact : IsAntisymmetric path_cmp
path_exact = slice_cmp-IsAntisymmetric name_exact
