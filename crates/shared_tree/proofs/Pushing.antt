-- What is in the pipes after a push.
use Rattle.std.proofs.Common.{◌≡◌, ◌≢◌, ◌∙◌, sym, ap, refl, ℕ, zero, suc, ◌+◌, ◌<◌, ◌≤◌, List, [], ◌∷◌, ◌++◌, length}
use Rattle.std.proofs.Common.{get_or, arith, rules, append-nil, nat_eq, true, false, inl, inr}
use Rattle.std.proofs.Math.ListN.{set}
use Rattle.std.proofs.lemmas.Bool.Decides.{nat_tests}
use Rattle.std.proofs.lemmas.List.Sorted.{searched}
use Rattle.std.specs.List.Sorted.{IsBinarySearchResult}
use Rattle.std.specs.Ordering.{nat_cmp}
use Rattle.std.specs.Result.{result_ok}
use Rattle.std.specs.Prelude.{Some, None, Option, Result, Ok, Err, slice_get, unwrap_or}
use Rattle.shared_tree.specs.declared.pipe.Batch.{Batch}
use Rattle.shared_tree.specs.Pipes.{Lacks}
use Rattle.shared_tree.specs.PipeEnds.{Piped}
use Rattle.shared_tree.specs.Handed.{hands, deliver}
use Rattle.shared_tree.specs.Held.{sents, pushed_at, Rises, FreeAt, IsReady, IsPlaceOf}

-- ---- one pipe changed

pub sents_pushed : (ps : List Piped) (k : ℕ) (d q : Piped) (b : Batch) → q.sent ≡ (get_or ps k d).sent ++ b ∷ [] → sents (set ps k q) ≡ pushed_at (sents ps) k b
sents_pushed [] k d q b e = refl
sents_pushed (x ∷ ps) zero d q b e = ap (λ s. s ∷ sents ps) e
sents_pushed (x ∷ ps) (suc k) d q b e = ap (λ s. x.sent ∷ s) (sents_pushed ps k d q b e)

pub sents_looked : (ps : List Piped) (k : ℕ) (d q : Piped) → q.sent ≡ (get_or ps k d).sent → sents (set ps k q) ≡ sents ps
sents_looked [] k d q e = refl
sents_looked (x ∷ ps) zero d q e = ap (λ s. s ∷ sents ps) e
sents_looked (x ∷ ps) (suc k) d q e = ap (λ s. x.sent ∷ s) (sents_looked ps k d q e)

pub free_set : (ps : List Piped) (k : ℕ) (q : Piped) → k < length ps → 0 < q.free → FreeAt (set ps k q) k
free_set [] k q within free = absurd (omega arith)
free_set (x ∷ ps) zero q within free = (q, refl, free)
free_set (x ∷ ps) (suc k) q within free = free_set ps k q (omega arith) free

-- as many pipes as lists of what they were sent
length-sents : (ps : List Piped) → length (sents ps) ≡ length ps
length-sents [] = refl
length-sents (p ∷ ps) = ap suc (length-sents ps)

length-pushed : (xss : List (List Batch)) (k : ℕ) (b : Batch) → length (pushed_at xss k b) ≡ length xss
length-pushed [] k b = refl
length-pushed (xs ∷ xss) zero b = refl
length-pushed (xs ∷ xss) (suc k) b = ap suc (length-pushed xss k b)

pub looked-length : (ns : List ℕ) (ps qs : List Piped) → length ns ≡ length ps → sents qs ≡ sents ps → length ns ≡ length qs
looked-length ns ps qs len same = len ∙ sym (length-sents ps) ∙ ap (λ (xss : List (List Batch)). length xss) (sym same) ∙ length-sents qs

pub pushed-length : (ns : List ℕ) (ps qs : List Piped) (k : ℕ) (b : Batch) → length ns ≡ length ps → sents qs ≡ pushed_at (sents ps) k b → length ns ≡ length qs
pushed-length ns ps qs k b len is =
    len ∙ sym (length-sents ps) ∙ sym (ap (λ (xss : List (List Batch)). length xss) is ∙ length-pushed (sents ps) k b)
    ∙ length-sents qs

-- ---- the pipe of a batch

hands_other : (b : Batch) (n : ℕ) → n ≢ b.instance → hands (Some b) n ≡ []
hands_other b n other = let no : nat_eq b.instance n ≡ false = grind (arith, nat_tests) in rw no refl

hands_own : (b : Batch) (n : ℕ) → n ≡ b.instance → hands (Some b) n ≡ b ∷ []
hands_own b n own = let yes : nat_eq b.instance n ≡ true = grind (arith, nat_tests) in rw yes refl

deliver_none : (ns : List ℕ) (ps : List Piped) → length ns ≡ length ps → deliver None ns (sents ps) ≡ sents ps
deliver_none [] [] len = refl
deliver_none [] (p ∷ ps) len = absurd (omega arith)
deliver_none (n ∷ ns) [] len = absurd (omega arith)
deliver_none (n ∷ ns) (p ∷ ps) len = rw (append-nil p.sent, deliver_none ns ps (omega arith)) refl

deliver_lacks : (ns : List ℕ) (ps : List Piped) (b : Batch) → length ns ≡ length ps → Lacks ns b.instance → deliver (Some b) ns (sents ps) ≡ sents ps
deliver_lacks [] [] b len lacks = refl
deliver_lacks [] (p ∷ ps) b len lacks = absurd (omega arith)
deliver_lacks (n ∷ ns) [] b len lacks = absurd (omega arith)
deliver_lacks (n ∷ ns) (p ∷ ps) b len lacks = rw (hands_other b n lacks.0, append-nil p.sent, deliver_lacks ns ps b (omega arith) lacks.1) refl

rises_lacks : (ns : List ℕ) (i least next : ℕ) → i < least → Rises least ns next → Lacks ns i
rises_lacks [] i least next below rises = tt
rises_lacks (n ∷ ns) i least next below rises = (omega (arith, rises.0), rises_lacks ns i (n + 1) next (omega (arith, rises.0)) rises.1)

rises_from : (ns : List ℕ) (i k least next : ℕ) → Rises least ns next → slice_get ns k ≡ Some i → least ≤ i
rises_from [] i k least next rises at = absurd (search (rules, at))
rises_from (n ∷ ns) i zero least next rises at = let same : n ≡ i = ap (λ (o : Option ℕ). unwrap_or o 0) at in omega (arith, rises.0)
rises_from (n ∷ ns) i (suc k) least next rises at = let h = rises_from ns i k (n + 1) next rises.1 at in omega (arith, rises.0)

deliver_pushed : (ns : List ℕ) (ps : List Piped) (b : Batch) (k least next : ℕ) → length ns ≡ length ps
    → Rises least ns next → slice_get ns k ≡ Some b.instance → deliver (Some b) ns (sents ps) ≡ pushed_at (sents ps) k b
deliver_pushed [] [] b k least next len rises at = refl
deliver_pushed [] (p ∷ ps) b k least next len rises at = absurd (omega arith)
deliver_pushed (n ∷ ns) [] b k least next len rises at = absurd (omega arith)
deliver_pushed (n ∷ ns) (p ∷ ps) b zero least next len rises at =
    let own : n ≡ b.instance = ap (λ (o : Option ℕ). unwrap_or o 0) at in
    rw (hands_own b n own, deliver_lacks ns ps b (omega arith) (rises_lacks ns b.instance (n + 1) next (omega (arith, own)) rises.1)) refl
deliver_pushed (n ∷ ns) (p ∷ ps) b (suc k) least next len rises at =
    let above = rises_from ns b.instance k (n + 1) next rises.1 at in
    rw (hands_other b n (omega (arith, above)), append-nil p.sent, deliver_pushed ns ps b k (n + 1) next (omega arith) rises.1 at) refl

-- the pipes after a push at the index that was found
abbrev pub pushed_by : Option Batch → Option ℕ → List (List Batch) → List (List Batch)
pushed_by (Some b) (Some k) xss = pushed_at xss k b
pushed_by _ _ xss = xss

pub delivered : (ns : List ℕ) (ps : List Piped) (at : Option ℕ) (o : Option Batch) (next : ℕ) → IsReady ns ps at o
    → Rises 1 ns next → length ns ≡ length ps → pushed_by o at (sents ps) ≡ deliver o ns (sents ps)
delivered ns ps at None next ready rises len = sym (deliver_none ns ps len)
delivered ns ps None (Some b) next ready rises len = sym (deliver_lacks ns ps b len ready.0)
delivered ns ps (Some k) (Some b) next ready rises len = sym (deliver_pushed ns ps b k 1 next len rises ready.0)

-- the same of a pipe that was borrowed from its index
pub pushed_there : (ps : List Piped) (k : ℕ) (p q : Piped) (b : Batch) → p ≡ get_or ps k p → q.sent ≡ p.sent ++ b ∷ []
    → sents (set ps k q) ≡ pushed_at (sents ps) k b
pushed_there ps k p q b is e = sents_pushed ps k p q b (e ∙ ap (λ (r : Piped). r.sent ++ b ∷ []) is)

pub looked_there : (ps : List Piped) (k : ℕ) (p q : Piped) → p ≡ get_or ps k p → q.sent ≡ p.sent → sents (set ps k q) ≡ sents ps
looked_there ps k p q is e = sents_looked ps k p q (e ∙ ap (λ (r : Piped). r.sent) is)

-- ---- what a binary search found

rises_below : (ns : List ℕ) (least next i : ℕ) → Rises least ns next → i < length ns → least ≤ get_or ns i 0
rises_below [] least next i rises within = absurd (omega arith)
rises_below (n ∷ ns) least next zero rises within = omega (arith, rises.0)
rises_below (n ∷ ns) least next (suc i) rises within = let h = rises_below ns (n + 1) next i rises.1 (omega arith) in omega (arith, rises.0)

rises_ordered : (ns : List ℕ) (least next i j : ℕ) → Rises least ns next → i ≤ j → j < length ns → get_or ns i 0 ≤ get_or ns j 0
rises_ordered [] least next i j rises order within = absurd (omega arith)
rises_ordered (n ∷ ns) least next zero zero rises order within = omega arith
rises_ordered (n ∷ ns) least next zero (suc j) rises order within = let h = rises_below ns (n + 1) next j rises.1 (omega arith) in omega arith
rises_ordered (n ∷ ns) least next (suc i) zero rises order within = absurd (omega arith)
rises_ordered (n ∷ ns) least next (suc i) (suc j) rises order within = rises_ordered ns (n + 1) next i j rises.1 (omega arith) (omega arith)

slice_get_or : (ns : List ℕ) (k : ℕ) → k < length ns → slice_get ns k ≡ Some (get_or ns k 0)
slice_get_or [] k within = absurd (omega arith)
slice_get_or (n ∷ ns) zero within = refl
slice_get_or (n ∷ ns) (suc k) within = slice_get_or ns k (omega arith)

lacks_all : (ns : List ℕ) (id : ℕ) → ((k : ℕ) → k < length ns → get_or ns k 0 ≢ id) → Lacks ns id
lacks_all [] id other = tt
lacks_all (n ∷ ns) id other = (other 0 (omega arith), lacks_all ns id (λ k p. other (suc k) (omega arith)))

parted : (ns : List ℕ) (id i : ℕ) → ((k : ℕ) → k < i → get_or ns k 0 < id)
    → ((k : ℕ) → i ≤ k → k < length ns → id < get_or ns k 0) → (k : ℕ) → k < length ns → get_or ns k 0 ≢ id
parted ns id i below above k within =
    elim (Rattle.std.proofs.lemmas.Bool.cases_order k i) [
      | inl same ↦ let h = above k (omega arith) within in omega arith
      | inr (inl less) ↦ let h = below k less in omega arith
      | inr (inr more) ↦ let h = above k (omega arith) within in omega arith
    ]

pub found : (ns : List ℕ) (id next : ℕ) (r : Result ℕ ℕ) → Rises 1 ns next → IsBinarySearchResult (λ y. nat_cmp y id) ns r → IsPlaceOf ns id (result_ok r)
found ns id next (Ok k) rises is =
    let h = searched ns id (Ok k) is (λ i j p q. rises_ordered ns 1 next i j rises p q) in
    slice_get_or ns k h.0 ∙ ap (λ (x : ℕ). Some x) h.1
found ns id next (Err k) rises is =
    let h = searched ns id (Err k) is (λ i j p q. rises_ordered ns 1 next i j rises p q) in
    lacks_all ns id (parted ns id k h.1 h.2)
