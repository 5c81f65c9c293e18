-- Which sequence numbers are marked, and what follows for a seat's calls if each can be the next one.
use Rattle.std.proofs.Common.{◌≡◌, ◌≢◌, ◌∙◌, refl, ℕ, zero, suc, ◌-◌, ◌<◌, Bool, true, false, List, [], ◌∷◌, ◌++◌}
use Rattle.std.proofs.Common.{length, map, take, drop, replicate, arith, append-nil}
use Rattle.std.specs.Prelude.{Some, slice_get, slice_set}
use Rattle.std.specs.List.{AllByRecursion}
use Rattle.std.proofs.lemmas.Bool.{true≢false}
use Rattle.std.proofs.lemmas.List.{length-set, drop_all, take_all}
use Rattle.std.proofs.lemmas.Option.{none-some, same_Some}
use Rattle.tree_core.specs.declared.reply.Entry.{Entry}
use Rattle.tree_core.specs.declared.reply.Kept.{Kept}
use Rattle.event_sinks.specs.Audited.{IsInJournal}
use Rattle.event_sinks.specs.Marked.{marked, AreNext}
use Rattle.event_sinks.proofs.Pairs.{PairsByRecursion, all_weaker, all_both}

-- a mark of the journal that is there, and not set
abbrev pub IsUnset : List Bool → ℕ → Type 0
IsUnset seen i = slice_get seen i ≡ Some false

-- ---- one mark

was_unset : (seen : List Bool) (i j : ℕ) → IsUnset (slice_set seen i true) j → (i ≢ j) × IsUnset seen j
was_unset [] i j u = absurd (none-some false u)
was_unset (s ∷ seen) zero zero u = absurd (true≢false (same_Some true false u))
was_unset (s ∷ seen) zero (suc j) u = (λ e. omega arith, u)
was_unset (s ∷ seen) (suc i) zero u = (λ e. omega arith, u)
was_unset (s ∷ seen) (suc i) (suc j) u = let h = was_unset seen i j u in (λ e. h.0 (omega arith), h.1)

still_unset : (seen : List Bool) (i j : ℕ) → i ≢ j → IsUnset seen j → IsUnset (slice_set seen i true) j
still_unset [] i j other u = u
still_unset (s ∷ seen) zero zero other u = absurd (other refl)
still_unset (s ∷ seen) zero (suc j) other u = u
still_unset (s ∷ seen) (suc i) zero other u = u
still_unset (s ∷ seen) (suc i) (suc j) other u = still_unset seen i j (λ e. other (omega arith)) u

-- ---- the marks of sequence numbers

pub marked-append : (seen : List Bool) (ps qs : List ℕ) → marked seen (ps ++ qs) ≡ marked (marked seen ps) qs
marked-append seen [] qs = refl
marked-append seen (p ∷ ps) qs = marked-append (slice_set seen (p - 1) true) ps qs

pub length-marked : (seen : List Bool) (ps : List ℕ) → length (marked seen ps) ≡ length seen
length-marked seen [] = refl
length-marked seen (p ∷ ps) = length-marked (slice_set seen (p - 1) true) ps ∙ length-set seen (p - 1) true

-- what a vector of the same length holds, once these were written over its elements
pub written_over : (new old : List Bool) (len : ℕ) → len ≡ length old → length new ≡ length old → take len (new ++ drop (length new) old) ≡ new
written_over new old len e f = rw (drop_all (length new) old (omega arith), append-nil new, take_all len new (omega arith)) refl

pub unset_by : (seen : List Bool) (ps : List ℕ) (j : ℕ) → IsUnset (marked seen ps) j → IsUnset seen j × AllByRecursion (λ p. p - 1 ≢ j) ps
unset_by seen [] j u = (u, tt)
unset_by seen (p ∷ ps) j u =
    let later = unset_by (slice_set seen (p - 1) true) ps j u in
    let first = was_unset seen (p - 1) j later.0 in
    (first.1, (first.0, later.1))

pub unset_after : (seen : List Bool) (ps : List ℕ) (j : ℕ) → IsUnset seen j → AllByRecursion (λ p. p - 1 ≢ j) ps → IsUnset (marked seen ps) j
unset_after seen [] j u others = u
unset_after seen (p ∷ ps) j u others = unset_after (slice_set seen (p - 1) true) ps j (still_unset seen (p - 1) j others.0 u) others.1

pub unset_at_first : (n j : ℕ) → j < n → IsUnset (replicate n false) j
unset_at_first zero j within = absurd (omega arith)
unset_at_first (suc n) zero within = refl
unset_at_first (suc n) (suc j) within = unset_at_first n j (omega arith)

-- ---- the calls of a seat

-- each call is in the journal; their sequence numbers are above the last one, ascend, and are not marked
pub record Fits (cut : ℕ) (entries : List Entry) (seen : List Bool) (number last : ℕ) (ks : List Kept) : Type 0 where
  pub stand : AllByRecursion (IsInJournal cut entries number) ks
  pub above : AllByRecursion (λ p. last < p) (map (λ (k : Kept). k.place) ks)
  pub rise : PairsByRecursion (λ j k. j < k) (map (λ (k : Kept). k.place) ks)
  pub unset : AllByRecursion (λ p. IsUnset seen (p - 1)) (map (λ (k : Kept). k.place) ks)

pub fits_from_next : (cut : ℕ) (entries : List Entry) (seen : List Bool) (number last : ℕ) (ks : List Kept)
    → AreNext cut entries seen number last ks → Fits cut entries seen number last ks
fits_from_next cut entries seen number last [] next = record { stand = tt; above = tt; rise = tt; unset = tt }
fits_from_next cut entries seen number last (k ∷ ks) next =
    let rest = fits_from_next cut entries (slice_set seen (k.place - 1) true) number k.place ks next.1 in
    let ps = map (λ (j : Kept). j.place) ks in
    record {
      stand = (next.0.1, rest.stand);
      above = (next.0.0, all_weaker (λ p. k.place < p) (λ p. last < p) (λ p higher. omega (arith, next.0.0)) ps rest.above);
      rise = (rest.above, rest.rise);
      unset = (
        next.0.2,
        all_weaker (λ p. IsUnset (slice_set seen (k.place - 1) true) (p - 1)) (λ p. IsUnset seen (p - 1))
            (λ p u. (was_unset seen (k.place - 1) (p - 1) u).1) ps rest.unset,
      );
    }

pub next_from_fits : (cut : ℕ) (entries : List Entry) (seen : List Bool) (number last : ℕ) (ks : List Kept)
    → Fits cut entries seen number last ks → AreNext cut entries seen number last ks
next_from_fits cut entries seen number last [] fits = tt
next_from_fits cut entries seen number last (k ∷ ks) fits =
    let ps = map (λ (j : Kept). j.place) ks in
    let positive : 0 < k.place = fits.stand.0.low in (
      (fits.above.0, fits.stand.0, fits.unset.0),
      next_from_fits cut entries (slice_set seen (k.place - 1) true) number k.place ks (record {
        stand = fits.stand.1;
        above = fits.rise.0;
        rise = fits.rise.1;
        unset =
            all_both (λ p. k.place < p) (λ p. IsUnset seen (p - 1))
            (λ p. IsUnset (slice_set seen (k.place - 1) true) (p - 1))
            (λ p higher u. still_unset seen (k.place - 1) (p - 1) (λ e. omega arith) u) ps fits.rise.0 fits.unset.1;
      }),
    )
