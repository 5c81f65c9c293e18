-- When the calls that the seats kept are the journal's, seat by seat.
use Rattle.std.proofs.Common.{◌≡◌, ◌≢◌, ◌∙◌, sym, ap, subst, refl, ℕ, ◌+◌, ◌-◌, ◌<◌, Bool, false, List, [], ◌∷◌, ◌++◌}
use Rattle.std.proofs.Common.{length, get_or, map, take, drop, replicate, arith, append-nil}
use Rattle.std.specs.Prelude.{All, AllPairs}
use Rattle.std.specs.List.{AllByRecursion, flat_map}
use Rattle.std.proofs.lemmas.List.{take-append-drop, take_more, drop_more}
use Rattle.std.proofs.lemmas.List.Concat.{flat_map-append}
use Rattle.std.proofs.lemmas.List.Elements.{All-from_recursion, recursion_from_All}
use Rattle.tree_core.specs.declared.reply.Entry.{Entry}
use Rattle.tree_core.specs.declared.reply.Kept.{Kept}
use Rattle.shared_tree.specs.declared.seat.SeatLog.{SeatLog}
use Rattle.event_sinks.specs.Audited.{IsInJournal, places, AreKept, IsStray}
use Rattle.event_sinks.specs.Marked.{marked, AreNext}
use Rattle.event_sinks.proofs.Pairs.{PairsByRecursion, AllPairs-from_recursion, recursion_from_AllPairs, all_weaker}
use Rattle.event_sinks.proofs.Pairs.{all_both, all_append, all_front, all_back, across_swap, pairs_weaker, pairs_append}
use Rattle.event_sinks.proofs.Pairs.{pairs_front, pairs_across}
use Rattle.event_sinks.proofs.Marks.{IsUnset, Fits, marked-append, unset_by, unset_after, unset_at_first, fits_from_next, next_from_fits}

-- ---- by recursion

abbrev pub Stand : ℕ → List Entry → SeatLog → Type 0
Stand cut entries l = AllByRecursion (IsInJournal cut entries l.number) l.kept

abbrev pub Rise : SeatLog → Type 0
Rise l = PairsByRecursion (λ j k. j < k) (places l)

pub record ByRecursion (cut : ℕ) (entries : List Entry) (logs : List SeatLog) : Type 0 where
  pub stand : AllByRecursion (Stand cut entries) logs
  pub rise : AllByRecursion Rise logs
  pub once : PairsByRecursion (λ j k. j ≢ k) (flat_map places logs)

pub by_recursion : (cut : ℕ) (entries : List Entry) (logs : List SeatLog) → AreKept cut entries logs → ByRecursion cut entries logs
by_recursion cut entries logs kept = record {
  stand =
      all_weaker (λ (l : SeatLog). All (IsInJournal cut entries l.number) l.kept) (Stand cut entries)
      (λ l p. recursion_from_All (IsInJournal cut entries l.number) l.kept p) logs
      (recursion_from_All _ logs kept.stand);
  rise =
      all_weaker (λ (l : SeatLog). AllPairs (λ j k. j < k) (places l)) Rise
      (λ l p. recursion_from_AllPairs (λ j k. j < k) (places l) p) logs (recursion_from_All _ logs kept.rise);
  once = recursion_from_AllPairs (λ j k. j ≢ k) (flat_map places logs) kept.once;
}

from_recursion : (cut : ℕ) (entries : List Entry) (logs : List SeatLog) → ByRecursion cut entries logs → AreKept cut entries logs
from_recursion cut entries logs kept = record {
  stand =
      All-from_recursion (λ (l : SeatLog). All (IsInJournal cut entries l.number) l.kept) logs
      (all_weaker (Stand cut entries) _ (λ l p. All-from_recursion (IsInJournal cut entries l.number) l.kept p) logs
      kept.stand);
  rise =
      All-from_recursion (λ (l : SeatLog). AllPairs (λ j k. j < k) (places l)) logs
      (all_weaker Rise _ (λ l p. AllPairs-from_recursion (λ j k. j < k) (places l) p) logs kept.rise);
  once = AllPairs-from_recursion (λ j k. j ≢ k) (flat_map places logs) kept.once;
}

-- it holds of the first logs too
pub kept_front : (cut : ℕ) (entries : List Entry) (xs ys : List SeatLog) → AreKept cut entries (xs ++ ys) → AreKept cut entries xs
kept_front cut entries xs ys kept =
    let k = by_recursion cut entries (xs ++ ys) kept in
    from_recursion cut entries xs (record {
      stand = all_front (Stand cut entries) xs ys k.stand;
      rise = all_front Rise xs ys k.rise;
      once =
          pairs_front (λ i j. i ≢ j) (flat_map places xs) (flat_map places ys)
          (subst (PairsByRecursion (λ i j. i ≢ j)) (flat_map-append places xs ys) k.once);
    })

-- ---- sequence numbers

-- the sequence number is one of the whole journal
abbrev pub IsPlaceIn : ℕ → List Entry → ℕ → Type 0
IsPlaceIn cut entries p = (0 < p) × (p - 1 < cut + length entries)

places_of : (cut : ℕ) (entries : List Entry) (number : ℕ) (ks : List Kept)
    → AllByRecursion (IsInJournal cut entries number) ks
    → AllByRecursion (IsPlaceIn cut entries) (map (λ (k : Kept). k.place) ks)
places_of cut entries number [] stand = tt
places_of cut entries number (k ∷ ks) stand = (
  (stand.0.low, (let low = stand.0.low in let high = stand.0.high in omega arith)),
  places_of cut entries number ks stand.1,
)

pub places_in : (cut : ℕ) (entries : List Entry) (logs : List SeatLog) → AllByRecursion (Stand cut entries) logs
    → AllByRecursion (IsPlaceIn cut entries) (flat_map places logs)
places_in cut entries [] stand = tt
places_in cut entries (l ∷ logs) stand =
    all_append (IsPlaceIn cut entries) (places l) (flat_map places logs) (places_of cut entries l.number l.kept stand.0)
    (places_in cut entries logs stand.1)

pub places_push : (before : List SeatLog) (l : SeatLog) → flat_map places (before ++ l ∷ []) ≡ flat_map places before ++ places l
places_push before l = flat_map-append places before (l ∷ []) ∙ ap (λ (ps : List ℕ). flat_map places before ++ ps) (append-nil (places l))

-- ---- one log more

-- the marks of the sequence numbers in some logs
abbrev pub marks_of : ℕ → List Entry → List SeatLog → List Bool
marks_of cut entries logs = marked (replicate (cut + length entries) false) (flat_map places logs)

-- a sequence number that is not marked is none of those
others_from_unset : (cut : ℕ) (entries : List Entry) (taken : List ℕ) (p : ℕ)
    → IsUnset (marked (replicate (cut + length entries) false) taken) (p - 1) → AllByRecursion (λ q. q ≢ p) taken
others_from_unset cut entries taken p u =
    all_weaker (λ q. q - 1 ≢ p - 1) (λ q. q ≢ p) (λ q apart same. apart (ap (λ (n : ℕ). n - 1) same)) taken
    (unset_by _ taken (p - 1) u).1

unset_from_others : (cut : ℕ) (entries : List Entry) (taken : List ℕ) (p : ℕ)
    → AllByRecursion (IsPlaceIn cut entries) taken → IsPlaceIn cut entries p → AllByRecursion (λ q. q ≢ p) taken
    → IsUnset (marked (replicate (cut + length entries) false) taken) (p - 1)
unset_from_others cut entries taken p in_journal within others =
    unset_after _ taken (p - 1) (unset_at_first (cut + length entries) (p - 1) within.1)
    (all_both (IsPlaceIn cut entries) (λ q. q ≢ p) (λ q. q - 1 ≢ p - 1)
    (λ q inside other same. other (omega (arith, inside.0, within.0, same))) taken in_journal others)

more : (cut : ℕ) (entries : List Entry) (before : List SeatLog) (l : SeatLog) → ByRecursion cut entries before
    → Fits cut entries (marks_of cut entries before) l.number 0 l.kept → ByRecursion cut entries (before ++ l ∷ [])
more cut entries before l kept fits =
    let taken = flat_map places before in
    let across =
    across_swap (λ p q. q ≢ p) (places l) taken
    (all_weaker _ (λ p. AllByRecursion (λ q. q ≢ p) taken) (others_from_unset cut entries taken) (places l)
    fits.unset)
    in
    record {
      stand = all_append (Stand cut entries) before (l ∷ []) kept.stand (fits.stand, tt);
      rise = all_append Rise before (l ∷ []) kept.rise (fits.rise, tt);
      once =
          subst (PairsByRecursion (λ j k. j ≢ k)) (sym (places_push before l))
          (pairs_append (λ j k. j ≢ k) taken (places l) kept.once
          (pairs_weaker (λ j k. j < k) (λ j k. j ≢ k) (λ j k below same. omega arith) (places l) fits.rise)
          across);
    }

fits : (cut : ℕ) (entries : List Entry) (before : List SeatLog) (l : SeatLog)
    → ByRecursion cut entries (before ++ l ∷ []) → Fits cut entries (marks_of cut entries before) l.number 0 l.kept
fits cut entries before l kept =
    let taken = flat_map places before in
    let stand = (all_back (Stand cut entries) before (l ∷ []) kept.stand).0 in
    let inside = places_of cut entries l.number l.kept stand in
    let in_journal = places_in cut entries before (all_front (Stand cut entries) before (l ∷ []) kept.stand) in
    let across =
    across_swap (λ q p. q ≢ p) taken (places l)
    (pairs_across (λ j k. j ≢ k) taken (places l)
    (subst (PairsByRecursion (λ j k. j ≢ k)) (places_push before l) kept.once))
    in
    record {
      stand = stand;
      above = all_weaker (IsPlaceIn cut entries) (λ p. 0 < p) (λ p within. within.0) (places l) inside;
      rise = (all_back Rise before (l ∷ []) kept.rise).0;
      unset =
          all_both (IsPlaceIn cut entries) (λ p. AllByRecursion (λ q. q ≢ p) taken)
          (λ p. IsUnset (marks_of cut entries before) (p - 1))
          (λ p within others. unset_from_others cut entries taken p in_journal within others) (places l) inside
          across;
    }

-- where all are kept so far, one log more is kept exactly where each of its calls can be the next one
kept_more : (cut : ℕ) (entries : List Entry) (before : List SeatLog) (l : SeatLog) → AreKept cut entries before
    → AreNext cut entries (marks_of cut entries before) l.number 0 l.kept → AreKept cut entries (before ++ l ∷ [])
kept_more cut entries before l kept next =
    from_recursion cut entries _
    (more cut entries before l (by_recursion cut entries before kept)
    (fits_from_next cut entries _ l.number 0 l.kept next))

next_of_kept : (cut : ℕ) (entries : List Entry) (before : List SeatLog) (l : SeatLog)
    → AreKept cut entries (before ++ l ∷ []) → AreNext cut entries (marks_of cut entries before) l.number 0 l.kept
next_of_kept cut entries before l kept = next_from_fits cut entries _ l.number 0 l.kept (fits cut entries before l (by_recursion cut entries _ kept))

marks_more : (cut : ℕ) (entries : List Entry) (before : List SeatLog) (l : SeatLog)
    → marked (marks_of cut entries before) (places l) ≡ marks_of cut entries (before ++ l ∷ [])
marks_more cut entries before l =
    sym (marked-append (replicate (cut + length entries) false) (flat_map places before) (places l))
    ∙ ap (marked (replicate (cut + length entries) false)) (sym (places_push before l))

pub kept_none : (cut : ℕ) (entries : List Entry) → AreKept cut entries []
kept_none cut entries = from_recursion cut entries [] (record { stand = tt; rise = tt; once = tt })

-- the logs up to one that was read, and from it on
logs_split : (logs : List SeatLog) (i : ℕ) (l : SeatLog) → i < length logs → l ≡ get_or logs i l → logs ≡ take i logs ++ l ∷ drop (i + 1) logs
logs_split logs i l within is =
    sym (take-append-drop i logs) ∙ ap (λ rest. take i logs ++ rest) (drop_more logs i l within ∙ ap (λ (k : SeatLog). k ∷ drop (i + 1) logs) (sym is))

logs_more : (logs : List SeatLog) (i : ℕ) (l : SeatLog) → i < length logs → l ≡ get_or logs i l → take (i + 1) logs ≡ take i logs ++ l ∷ []
logs_more logs i l within is = take_more logs i l within ∙ ap (λ (k : SeatLog). take i logs ++ k ∷ []) (sym is)

-- the log that was read is the first stray, where one of its calls can not be the next one
pub stray_at : (cut : ℕ) (entries : List Entry) (logs : List SeatLog) (i : ℕ) (l : SeatLog) → i < length logs
    → l ≡ get_or logs i l → AreKept cut entries (take i logs)
    → (AreNext cut entries (marks_of cut entries (take i logs)) l.number 0 l.kept → ⊥)
    → IsStray cut entries logs l.number
stray_at cut entries logs i l within is kept stray =
    (take i logs, l, drop (i + 1) logs, logs_split logs i l within is, kept, λ more. stray (next_of_kept cut entries (take i logs) l more), refl)

-- and where each can, all logs up to it are kept
pub kept_upto : (cut : ℕ) (entries : List Entry) (logs : List SeatLog) (i : ℕ) (l : SeatLog) → i < length logs
    → l ≡ get_or logs i l → AreKept cut entries (take i logs)
    → AreNext cut entries (marks_of cut entries (take i logs)) l.number 0 l.kept
    → AreKept cut entries (take (i + 1) logs)
kept_upto cut entries logs i l within is kept next =
    subst (AreKept cut entries) (sym (logs_more logs i l within is)) (kept_more cut entries (take i logs) l kept next)

pub marks_upto : (cut : ℕ) (entries : List Entry) (logs : List SeatLog) (i : ℕ) (l : SeatLog) → i < length logs
    → l ≡ get_or logs i l
    → marked (marks_of cut entries (take i logs)) (places l) ≡ marks_of cut entries (take (i + 1) logs)
marks_upto cut entries logs i l within is = marks_more cut entries (take i logs) l ∙ ap (marks_of cut entries) (sym (logs_more logs i l within is))
