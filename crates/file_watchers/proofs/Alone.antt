-- One instance that watches a file, with its watch.
use Rattle.std.proofs.Common.{◌≡◌, ◌≢◌, ℕ, Bool, true, false, cond, eqb, [], ◌∷◌, Some, None, IsSome, is_some}
use Rattle.std.proofs.Common.{refl, sym, ap, ◌∙◌, subst, arith}
use Rattle.std.proofs.lemmas.Bool.{eq-eqb, eqb-true, false≢true}
use Rattle.std.specs.FinMap as finmap
use Rattle.std.specs.FinMap.{get-empty, get-insert, get-remove, same_map, nat_cmp-IsAntisymmetric}
use Rattle.std.specs.Ordering.{nat_cmp}
use Rattle.std.specs.Cmp.{nat_cmp_total, unsigned_tied}
use Rattle.watch_table.specs.declared.watch.Watch.{Watch}
use Rattle.file_watchers.specs.Watchers.{AreWatchers, WatchMap}
use Rattle.file_watchers.proofs.Rising.{cut-absent}
use Rattle.file_watchers.proofs.Zipped.{are-put, none-watch}

-- where an instance is put in, there is one
pub put-not-empty : (m : WatchMap) (id : ℕ) (watch : Watch) → finmap.insert m id watch ≢ finmap.empty
put-not-empty m id watch e =
    false≢true
    (ap is_some (sym (get-empty nat_cmp id) ∙ ap (λ (m : WatchMap). finmap.get m id) (sym e) ∙ get-insert nat_cmp_total m id watch id
    ∙ ap (λ b. cond b (Some watch) (finmap.get m id)) (unsigned_tied id id ∙ eq-eqb id id refl)))

abbrev alone : ℕ → Watch → WatchMap
alone id watch = finmap.insert finmap.empty id watch

pub are-one : (id : ℕ) (watch : Watch) → AreWatchers (id ∷ []) (watch ∷ [])
are-one id watch =
    are-put [] [] none-watch 0 id watch (omega arith, (λ k h. absurd (omega (arith, h))), (λ k p h. absurd (omega (arith, h))))

inserted : (m : WatchMap) (id q : ℕ) (watch : Watch) → finmap.get (finmap.insert m id watch) q ≡ cond (eqb q id) (Some watch) (finmap.get m q)
inserted m id q watch = get-insert nat_cmp_total m id watch q ∙ ap (λ t. cond t (Some watch) (finmap.get m q)) (unsigned_tied q id)

at-one : (id q : ℕ) (watch : Watch) → finmap.get (alone id watch) q ≡ cond (eqb q id) (Some watch) None
at-one id q watch = inserted finmap.empty id q watch ∙ ap (cond (eqb q id) (Some watch)) (get-empty nat_cmp q)

-- it gets another watch
pub one-again : (id : ℕ) (was watch : Watch) → finmap.insert (alone id was) id watch ≡ alone id watch
one-again id was watch =
    same_map nat_cmp_total nat_cmp-IsAntisymmetric (finmap.insert (alone id was) id watch) (alone id watch) (λ q.
    inserted (alone id was) id q watch ∙ ap (cond (eqb q id) (Some watch)) (at-one id q was) ∙ twice (eqb q id) ∙ sym (at-one id q watch))
  where
    twice : (t : Bool) → cond t (Some watch) (cond t (Some was) None) ≡ cond t (Some watch) None
    twice true = refl
    twice false = refl

-- it is the one that is there
pub is-one : (id q : ℕ) (watch : Watch) → IsSome (finmap.get (alone id watch) q) → q ≡ id
is-one id q watch there = eqb-true q id (by (eqb q id) (subst (λ o. IsSome o) (at-one id q watch) there))
  where
    by : (t : Bool) → IsSome (cond t (Some watch) None) → t ≡ true
    by true h = refl
    by false h = h

-- nothing is left without it
pub one-cut : (id : ℕ) (watch : Watch) → finmap.remove (alone id watch) id ≡ finmap.empty
one-cut id watch =
    same_map nat_cmp_total nat_cmp-IsAntisymmetric (finmap.remove (alone id watch) id) finmap.empty (λ q.
    get-remove nat_cmp_total (alone id watch) id q ∙ ap (λ t. cond t None (finmap.get (alone id watch) q)) (unsigned_tied q id)
    ∙ ap (cond (eqb q id) None) (at-one id q watch) ∙ none (eqb q id) ∙ sym (get-empty nat_cmp q))
  where
    none : (t : Bool) → cond t None (cond t (Some watch) None) ≡ None
    none true = refl
    none false = refl

-- and it stays where another one is to be taken out
pub one-kept : (id q : ℕ) (watch : Watch) → eqb id q ≡ false → finmap.remove (alone id watch) q ≡ alone id watch
one-kept id q watch other =
    cut-absent (alone id watch) q (at-one id q watch ∙ ap (λ t. cond t (Some watch) None) (not-same (eqb q id) refl))
  where
    not-same : (t : Bool) → eqb q id ≡ t → t ≡ false
    not-same true h = absurd (false≢true (sym other ∙ eq-eqb id q (sym (eqb-true q id h))))
    not-same false h = refl

-- whether it is the one, is whether nothing is left
pub one-left : (id q : ℕ) (watch : Watch) (is : Bool) → eqb id q ≡ is
    → ((is ≡ true → finmap.remove (alone id watch) q ≡ finmap.empty) × (finmap.remove (alone id watch) q ≡ finmap.empty → is ≡ true))
one-left id q watch true same = (
  (λ h. ap (finmap.remove (alone id watch)) (sym (eqb-true id q same)) ∙ one-cut id watch),
  (λ h. refl),
)
one-left id q watch false other = (
  (λ h. absurd (false≢true h)),
  (λ h. absurd (put-not-empty finmap.empty id watch (sym (one-kept id q watch other) ∙ h))),
)
