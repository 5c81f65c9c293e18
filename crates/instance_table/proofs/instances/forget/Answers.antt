use Rattle.std.proofs.Common.{◌≡◌, ℕ, List, [], ◌∷◌, ◌||◌, None, cond, eqb, ◌&&◌, map, sym, ap, ◌∙◌, refl}
use Rattle.std.specs.FinMap as finmap
use Rattle.std.specs.List.{list_any}
use Rattle.std.specs.Ordering.{nat_cmp, eq_by_cmp}
use Rattle.std.specs.Cmp.{unsigned_tied}
use Rattle.std.specs.Map.Iter.{deref}
use Rattle.std.proofs.lemmas.Map.Iter.{iter_end}
use Rattle.instance_table.specs.Index.{watch_noted}
use Rattle.instance_table.proofs.instances.forget.Goals as goal

same-tests : (n : ℕ) (ks : List ℕ) → list_any (eqb n) ks ≡ list_any (eq_by_cmp nat_cmp n) ks
same-tests n [] = refl
same-tests n (k ∷ ks) = ap (λ b. b || list_any (eqb n) ks) (sym (unsigned_tied n k)) ∙ ap (λ b. eq_by_cmp nat_cmp n k || b) (same-tests n ks)

pub returns-clause-noted : goal.returns-clause-noted
returns-clause-noted c n q =
    let yielded = iter_end deref _ c.loop-number.yielded _ _ _ _ c.into_iter-number-iterator.ensures.into_iter_gives
    c.loop-number.yielded_by c.in-None.is c.next.ensures.steps in
    let ks = finmap.keys c.args.watches.now.watches in
    let all : map deref c.loop-number.yielded ≡ ks = yielded.0 ∙ c.numbers-number-items.ensures.rest in
    c.loop-number.invariant.noted n q
    ∙ ap (λ b. cond (b && eqb q c.args.id) None (watch_noted c.args.index.now n q))
    (ap (list_any (eqb n)) all ∙ same-tests n ks ∙ sym (finmap.contains_key-keys c.args.watches.now.watches n))
