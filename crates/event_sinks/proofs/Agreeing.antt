-- What agrees has no fault, and each of its sequence numbers is kept once.
use Rattle.std.proofs.Common.{◌≡◌, ◌≢◌, ◌∙◌, sym, ap, subst, refl, inl, inr, ⊎_elim, ℕ, zero, suc, map, Option, Some}
use Rattle.std.proofs.Common.{None, ◌+◌, ◌-◌, ◌<◌, ◌≤◌, true, false, cond, eqb, List, [], ◌∷◌, ◌++◌, length, arith}
use Rattle.std.proofs.Common.{append-nil, append_assoc, length-append}
use Rattle.std.proofs.lemmas.List.{length-map}
use Rattle.std.specs.Prelude.{◌==◌, count_by, nat_lt, slice_get}
use Rattle.std.proofs.lemmas.Bool.Decides.{nat_tests}
use Rattle.std.proofs.lemmas.List.Elements.{filter-append}
use Rattle.std.specs.List.{AllByRecursion, IsDistinct, flat_map, list_any}
use Rattle.std.proofs.lemmas.Bool.{false≢true, cases_eq, ne_eqb, eq-eqb, eqb-true, or_cases}
use Rattle.std.proofs.lemmas.List.Sums.{sum_by-cons}
use Rattle.std.proofs.lemmas.Map.Steps.{length-le_from_distinct_below}
use Rattle.tree_core.specs.declared.reply.Entry.{Entry}
use Rattle.tree_core.specs.declared.reply.Kept.{Kept}
use Rattle.shared_tree.specs.declared.pipe.Batch.{Batch}
use Rattle.shared_tree.specs.declared.seat.SeatLog.{SeatLog}
use Rattle.shared_tree.specs.Calls.{BookContents, IsSent}
use Rattle.tree_core.specs.Journal.{last_place}
use Rattle.shared_tree.specs.Handed.{CutsPartBatches, EndBatchesComeLast, handed, handed_since, piped_of}
use Rattle.shared_tree.specs.Pipes.{IsIn, Lacks}
use Rattle.shared_tree.proofs.Ends.{front-is-all}
use Rattle.event_sinks.specs.declared.audit.SettleFault.{SettleFault}
use Rattle.event_sinks.specs.declared.audit.SettleFault.TheVariants.{CountDiffers, Stray, NotEnded, HandedDiffers, Memory}
use Rattle.event_sinks.specs.Audited.{AreKept, AuditsAgree, Differs, FaultsContradictTheAudit, FrontsAreWhole}
use Rattle.event_sinks.specs.Audited.{IsFaultAt, IsSentTo, IsServed, IsServedAt, IsServedOtherwise, IsStray, IsUnended}
use Rattle.event_sinks.specs.Audited.{Outcome, batches_of, since, calls_of, of_instance, places}
use Rattle.event_sinks.proofs.Pairs.{PairsByRecursion, all_weaker}
use Rattle.event_sinks.proofs.KeptCalls.{by_recursion, kept_front, places_in}

-- ---- faults

in_and_lacks : (ns : List ℕ) (n : ℕ) → IsIn ns n → Lacks ns n → ⊥
in_and_lacks [] n is_in lacks = is_in
in_and_lacks (m ∷ ns) n (inl same) lacks = lacks.0 same
in_and_lacks (m ∷ ns) n (inr later) lacks = in_and_lacks ns n later lacks.1

differs_from_itself : (bs : List Batch) (p : ℕ) → Differs bs bs p → ⊥
differs_from_itself [] p differs = differs
differs_from_itself (b ∷ bs) p (inl later) = differs_from_itself bs p later.1
differs_from_itself (b ∷ bs) p (inr here) = here.0 refl

-- one that was served ended, and was handed these batches and no others
served_ended : (cut : ℕ) (batches : List Batch) (es : List Outcome) → IsServed cut batches es → IsUnended es → ⊥
served_ended cut batches es served unended = subst IsUnended served.1 unended served.2

served_so : (cut : ℕ) (batches : List Batch) (es : List Outcome) (p : ℕ) → IsServed cut batches es → IsServedOtherwise cut batches es p → ⊥
served_so cut batches es p served otherwise =
    ⊎_elim
    (λ differs. differs_from_itself batches p (subst (λ (bs : List Batch). Differs batches bs p) served.3 differs))
    (λ second. second.1 refl)
    (subst (λ (xs : List Outcome). IsServedOtherwise cut batches xs p) served.1 otherwise).1

not_ended : (b : BookContents) (es : List Outcome) (n : ℕ) → IsServedAt b es n → IsIn b.pipes n → IsUnended (of_instance n es) → ⊥
not_ended b es n (inl served) is_in unended = served_ended b.state.place (batches_of b n) (of_instance n es) served.1 unended
not_ended b es n (inr none) is_in unended = in_and_lacks b.pipes n is_in none.0

handed_otherwise : (b : BookContents) (es : List Outcome) (n p : ℕ) → IsServedAt b es n
    → IsIn b.pipes n × IsServedOtherwise b.state.place (batches_of b n) (of_instance n es) p → ⊥
handed_otherwise b es n p (inl served) fault = served_so b.state.place (batches_of b n) (of_instance n es) p served.1 fault.1
handed_otherwise b es n p (inr none) fault = in_and_lacks b.pipes n fault.0 none.0

handed_to_none : (b : BookContents) (es : List Outcome) (n p : ℕ) → IsServedAt b es n → Lacks b.pipes n × (of_instance n es ≢ []) × (p ≡ 0) → ⊥
handed_to_none b es n p (inl served) fault = in_and_lacks b.pipes n served.0 fault.0
handed_to_none b es n p (inr none) fault = fault.1 none.1

fault_at : (b : BookContents) (es : List Outcome) (n : ℕ) (f : SettleFault) → IsServedAt b es n → IsFaultAt b es n f → ⊥
fault_at b es n (CountDiffers entries calls) served fault = fault
fault_at b es n (Stray m) served fault = fault
fault_at b es n (NotEnded m) served fault = not_ended b es n served fault.1 fault.2
fault_at b es n (HandedDiffers m p) served fault = ⊎_elim (handed_otherwise b es n p served) (handed_to_none b es n p served) fault.1
fault_at b es n Memory served fault = fault

stray_is_not_kept : (cut : ℕ) (entries : List Entry) (logs : List SeatLog) (n : ℕ) → IsStray cut entries logs n → AreKept cut entries logs → ⊥
stray_is_not_kept cut entries logs n (before, l, rest, split, front, no_longer, same) kept =
    no_longer (kept_front cut entries (before ++ l ∷ []) rest (subst (AreKept cut entries) (split ∙ sym (append_assoc before (l ∷ []) rest)) kept))

pub faults_contradict : FaultsContradictTheAudit
faults_contradict b logs es (CountDiffers entries calls) fault other audited = fault.0 audited.counted
faults_contradict b logs es (Stray n) fault other audited = stray_is_not_kept b.state.place b.state.entries logs n fault.1 audited.kept
faults_contradict b logs es (NotEnded n) fault other audited = fault_at b es fault.2.0 (NotEnded n) (audited.served fault.2.0) fault.2.1
faults_contradict b logs es (HandedDiffers n p) fault other audited = fault_at b es fault.2.0 (HandedDiffers n p) (audited.served fault.2.0) fault.2.1
faults_contradict b logs es Memory fault other audited = other refl

-- ---- each sequence number is kept once

count_first : (q p : ℕ) (ps : List ℕ) → count_by (λ r. r == p) (q ∷ ps) ≡ cond (eqb q p) 1 0 + count_by (λ r. r == p) ps
count_first q p ps = sum_by-cons (λ (r : ℕ). cond (eqb r p) 1 0) q ps

count_none : (ps : List ℕ) (p : ℕ) → AllByRecursion (λ q. q ≢ p) ps → count_by (λ q. q == p) ps ≡ 0
count_none [] p others = refl
count_none (q ∷ ps) p others = count_first q p ps ∙ rw (ne_eqb q p others.0, count_none ps p others.1) refl

-- a number that can not be missing from numbers of which no two are equal
count_one : (ps : List ℕ) (p : ℕ) → PairsByRecursion (λ j k. j ≢ k) ps → (AllByRecursion (λ q. q ≢ p) ps → ⊥) → count_by (λ q. q == p) ps ≡ 1
count_one [] p once some = absurd (some tt)
count_one (q ∷ ps) p once some =
    ⊎_elim
    (λ (same : q ≡ p).
    count_first q p ps
    ∙ rw (
      eq-eqb q p same,
      count_none ps p (all_weaker (λ r. q ≢ r) (λ r. r ≢ p) (λ r apart e. apart (same ∙ sym e)) ps once.0),
    )
    refl)
    (λ (other : q ≡ p → ⊥). count_first q p ps ∙ rw (ne_eqb q p other, count_one ps p once.1 (λ others. some (other, others))) refl)
    (cases_eq q p)

distinct : (ps : List ℕ) → PairsByRecursion (λ j k. j ≢ k) ps → IsDistinct eqb ps
unfolding IsDistinct
distinct [] once = tt
distinct (p ∷ ps) once = (all_weaker (λ q. p ≢ q) (λ q. eqb p q ≡ false) (λ q apart. ne_eqb p q apart) ps once.0, distinct ps once.1)

any_below : (n : ℕ) (ps : List ℕ) → AllByRecursion (λ p. p < n) ps → (q : ℕ) → list_any (eqb q) ps ≡ true → q < n
any_below n [] below q any = absurd (false≢true any)
any_below n (p ∷ ps) below q any =
    ⊎_elim
    (λ (here : eqb q p ≡ true). let same = eqb-true q p here in omega (arith, below.0))
    (any_below n ps below.1 q)
    (or_cases (eqb q p) (list_any (eqb q) ps) any)

-- of n numbers from 1 to n, no two of them equal, none of these is missing
none_missing : (n : ℕ) (ps : List ℕ) (p : ℕ) → length ps ≡ n → PairsByRecursion (λ j k. j ≢ k) ps
    → AllByRecursion (λ q. (0 < q) × (q - 1 < n)) ps → 0 < p → p ≤ n → AllByRecursion (λ q. q ≢ p) ps → ⊥
none_missing n ps p len once inside positive within others =
    let apart : PairsByRecursion (λ j k. j ≢ k) (0 ∷ p ∷ ps) = (
      (λ e. omega arith, all_weaker (λ q. (0 < q) × (q - 1 < n)) (λ q. 0 ≢ q) (λ q in_range e. omega (arith, in_range.0)) ps inside),
      (all_weaker (λ q. q ≢ p) (λ q. p ≢ q) (λ q other e. other (sym e)) ps others, once),
    ) in
    let below : AllByRecursion (λ q. q < n + 1) (0 ∷ p ∷ ps) = (
      omega arith,
      (
        omega arith,
        all_weaker (λ q. (0 < q) × (q - 1 < n)) (λ q. q < n + 1)
            (λ q in_range. omega (arith, in_range.0, in_range.1)) ps inside,
      ),
    )
    in
    let most = length-le_from_distinct_below (0 ∷ p ∷ ps) (n + 1) (distinct (0 ∷ p ∷ ps) apart) (any_below (n + 1) (0 ∷ p ∷ ps) below) in
    omega arith

length-places : (logs : List SeatLog) → length (flat_map places logs) ≡ calls_of logs
length-places [] = refl
length-places (l ∷ logs) =
    length-append (places l) (flat_map places logs)
    ∙ (rw (length-map l.kept (λ (k : Kept). k.place), length-places logs) refl ∙ sym (sum_by-cons (λ (m : SeatLog). length m.kept) l logs))

pub audits-agree : AuditsAgree
audits-agree b logs es counted audited p positive within =
    let k = by_recursion b.state.place b.state.entries logs audited.kept in
    let len : length (flat_map places logs) ≡ last_place b.state = length-places logs ∙ (sym audited.counted ∙ counted) in
    count_one (flat_map places logs) p k.once
    (none_missing (last_place b.state) (flat_map places logs) p len k.once
    (places_in b.state.place b.state.entries logs k.stand) positive (omega arith))

-- ---- fronts

since-early : (cut : ℕ) (bs : List Batch) → AllByRecursion (λ b. b.place ≤ cut) bs → since cut bs ≡ []
since-early cut [] early = refl
since-early cut (b ∷ bs) early =
    let no : nat_lt cut b.place ≡ false = (let h = early.0 in grind (arith, nat_tests)) in
    ap (λ t. cond t (b ∷ since cut bs) (since cut bs)) no ∙ since-early cut bs early.1

since-late : (cut : ℕ) (bs : List Batch) → AllByRecursion (λ b. cut < b.place) bs → since cut bs ≡ bs
since-late cut [] late = refl
since-late cut (b ∷ bs) late =
    let yes : nat_lt cut b.place ≡ true = (let h = late.0 in grind (arith, nat_tests)) in
    ap (λ t. cond t (b ∷ since cut bs) (since cut bs)) yes ∙ ap (λ (xs : List Batch). b ∷ xs) (since-late cut bs late.1)

-- what the pipe of a number was sent is what the whole journal hands to its instance
sent-whole : (f : ℕ → List Batch) (ns : List ℕ) (k n : ℕ) (bs : List Batch) → slice_get ns k ≡ Some n → slice_get (map f ns) k ≡ Some bs → bs ≡ f n
sent-whole f [] k n bs at there = absurd (let none : ◌≡◌ {A = Option ℕ} None (Some n) = at in cc)
sent-whole f (m ∷ ns) zero n bs at there =
    let same : m ≡ n = (let e : ◌≡◌ {A = Option ℕ} (Some m) (Some n) = at in cc) in
    let sent : f m ≡ bs = (let e : ◌≡◌ {A = Option (List Batch)} (Some (f m)) (Some bs) = there in cc) in
    sym sent ∙ ap f same
sent-whole f (m ∷ ns) (suc k) n bs at there = sent-whole f ns k n bs at there

-- a front that ends with an end batch is all, and since the cut it is what the journal hands over
all_of_it : EndBatchesComeLast → CutsPartBatches
    → (b : BookContents) (n : ℕ) (handed before rest : List Batch) (last : Batch)
    → (sends : IsSent b.state b.pipes b.sent) → handed ≡ before ++ last ∷ [] → last.records ≡ []
    → IsSentTo b n (handed ++ rest)
    → since b.state.place handed ≡ batches_of b n
all_of_it come_last parts b n given before rest last sends is none (k, at, sent) =
    let es = sends.past ++ b.state.entries in
    let limits = b.state.start.limits in
    let whole : given ++ rest ≡ handed limits es n =
    sent-whole (handed limits es) (piped_of es) k n (given ++ rest)
    (ap (λ (ns : List ℕ). slice_get ns k) (sym sends.pipes_are) ∙ at)
    (ap (λ (xss : List (List Batch)). slice_get xss k) (sym sends.sent_are) ∙ sent) in
    let none_left : rest ≡ [] = front-is-all come_last limits es n before rest last (sym whole ∙ ap (λ (xs : List Batch). xs ++ rest) is) none in
    let part = parts b.state sends.past n sends.is_past in
    let all : given ≡ handed limits sends.past n ++ handed_since b.state n =
    sym (append-nil given) ∙ ap (λ (xs : List Batch). given ++ xs) (sym none_left) ∙ whole ∙ part.parted in
    ap (since b.state.place) all ∙ filter-append (λ (x : Batch). nat_lt b.state.place x.place) (handed limits sends.past n) (handed_since b.state n)
    ∙ ap (λ (xs : List Batch). xs ++ since b.state.place (handed_since b.state n)) (since-early b.state.place (handed limits sends.past n) part.early)
    ∙ since-late b.state.place (handed_since b.state n) part.late

not_different : (cut : ℕ) (batches : List Batch) (e : Outcome) (more : List Outcome) (p : ℕ)
    → since cut e.handed ≡ batches → IsServedOtherwise cut batches (e ∷ more) p → p ≡ 0
not_different cut batches e more p same (why, inl differs) =
    absurd (differs_from_itself batches p (subst (λ (bs : List Batch). Differs batches bs p) same differs))
not_different cut batches e more p same (why, inr second) = second.2

pub fronts-are-whole : EndBatchesComeLast → CutsPartBatches → FrontsAreWhole
fronts-are-whole come_last parts b es more e n p before rest last sends first is none sent (same, inl other) =
    not_different b.state.place (batches_of b n) e more p (all_of_it come_last parts b n e.handed before rest last sends is none sent)
    (subst (λ (xs : List Outcome). IsServedOtherwise b.state.place (batches_of b n) xs p) first other.1)
fronts-are-whole come_last parts b es more e n p before rest last sends first is none sent (same, inr none_there) = none_there.2
