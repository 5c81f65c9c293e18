-- Sets of numbers of instances, which are rows with no value.
use Rattle.std.proofs.Common.{◌≡◌, ℕ, true, false, cond, ◌||◌, List, [], ◌∷◌, map, Bool, Option, Some, None, refl, sym, ap, ◌∙◌, subst}
use Rattle.std.specs.List.{list_any}
use Rattle.std.specs.List.Sorted.{IsStrictlySortedBy}
use Rattle.std.specs.Ordering.{nat_cmp, eq_by_cmp}
use Rattle.std.specs.Cmp.{nat_cmp_total}
use Rattle.std.specs.FinMap as finmap
use Rattle.std.specs.FinMap.{FinMap, find, from_entries, get-from_entries, same_map, nat_cmp-IsAntisymmetric}
use Rattle.std.proofs.lemmas.List.{map-id}
use Rattle.file_watchers.proofs.Rising.{entries-rising}

abbrev pub IdSet : Type 0
IdSet = FinMap nat_cmp (Unit {0})

-- numbers, each with nothing
abbrev marked : List ℕ → List (ℕ × Unit {0})
marked ids = map (λ id. (id, tt)) ids

abbrev pub set_of : List ℕ → IdSet
set_of ids = from_entries (marked ids)

find-marked : (ks : List ℕ) (q : ℕ) → find nat_cmp q (marked ks) ≡ cond (list_any (eq_by_cmp nat_cmp q) ks) (Some tt) None
find-marked [] q = refl
find-marked (k ∷ ks) q =
    elim (eq_by_cmp nat_cmp q k) as (λ b. cond b (Some tt) (find nat_cmp q (marked ks)) ≡ cond (b || list_any (eq_by_cmp nat_cmp q) ks) (Some tt) None) [
      | true ↦ refl
      | false ↦ find-marked ks q
    ]

-- whether a number is in a set
abbrev pub mark : Bool → Option (Unit {0})
mark b = cond b (Some tt) None

pub get-set : (ks : List ℕ) (q : ℕ) → finmap.get (set_of ks) q ≡ mark (list_any (eq_by_cmp nat_cmp q) ks)
get-set ks q = get-from_entries nat_cmp_total (marked ks) q ∙ find-marked ks q

-- sets where each number is in both or in none
pub same-set : (ks : List ℕ) (m : IdSet) → ((q : ℕ) → mark (list_any (eq_by_cmp nat_cmp q) ks) ≡ finmap.get m q) → set_of ks ≡ m
same-set ks m same =
    same_map nat_cmp_total nat_cmp-IsAntisymmetric (set_of ks) m (λ q. get-set ks q ∙ same q)

as-rows : (ks : List ℕ) → IsStrictlySortedBy nat_cmp ks → IsStrictlySortedBy nat_cmp (map (λ (k : ℕ). k) ks)
as-rows ks h = subst (IsStrictlySortedBy nat_cmp) (sym (map-id ks)) h

-- the numbers of the set of a list that rises are the list
pub items-rising : (ks : List ℕ) → IsStrictlySortedBy nat_cmp ks → finmap.keys (set_of ks) ≡ ks
items-rising ks h = ap (map (λ (e : ℕ × Unit {0}). e.0)) (entries-rising (λ (k : ℕ). k) (λ _. tt) ks (as-rows ks h)) ∙ keys-marked ks
  where
    keys-marked : (ks : List ℕ) → map (λ (e : ℕ × Unit {0}). e.0) (marked ks) ≡ ks
    keys-marked [] = refl
    keys-marked (k ∷ ks) = ap (λ rest. k ∷ rest) (keys-marked ks)
