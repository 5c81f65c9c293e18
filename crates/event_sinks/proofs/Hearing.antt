-- What a listener keeps from step to step.
use Rattle.std.proofs.Common.{◌≡◌, ◌≢◌, Bool, subst, ◌∙◌, sym, ap, refl, ℕ, zero, suc, ◌+◌, ◌-◌, ◌<◌, ◌≤◌, inl, inr}
use Rattle.std.proofs.Common.{List, [], ◌∷◌, ◌++◌, length, take, drop, arith, append-nil, append_assoc, length-append}
use Rattle.std.proofs.Common.{add-one, false}
use Rattle.std.specs.Prelude.{All, Some, None, Option}
use Rattle.std.proofs.lemmas.List.Elements.{All-push}
use Rattle.record_codec.specs.declared.event.Event.{Event}
use Rattle.shared_tree.specs.declared.pipe.Batch.{Batch}
use Rattle.event_sinks.specs.declared.listener.Cause.{Cause}
use Rattle.event_sinks.specs.declared.listener.Cause.TheVariants as cause
use Rattle.event_sinks.specs.declared.listener.Step.{Step}
use Rattle.event_sinks.specs.declared.listener.Step.TheVariants as step
use Rattle.event_sinks.specs.Listeners.{ListenerState, IsEndedBy, IsSoundListener, TookBatches, IsTurn, Puts, Reaches, Steps, Takes}
use Rattle.shared_tree.specs.Handed.{records_of}

records_of-snoc : (bs : List Batch) (b : Batch) → records_of (bs ++ b ∷ []) ≡ records_of bs ++ b.records
records_of-snoc [] b = append-nil b.records
records_of-snoc (x ∷ xs) b = ap (λ (r : List Event). x.records ++ r) (records_of-snoc xs b) ∙ sym (append_assoc x.records (records_of xs) b.records)

drop-within : (n : ℕ) (xs ys : List Event) → n ≤ length xs → drop n (xs ++ ys) ≡ drop n xs ++ ys
drop-within zero xs ys within = refl
drop-within (suc n) [] ys within = absurd (omega arith)
drop-within (suc n) (x ∷ xs) ys within = drop-within n xs ys (omega arith)

take-past : (xs ys : List Event) (k : ℕ) → take (length xs + k) (xs ++ ys) ≡ xs ++ take k ys
take-past [] ys k = let e : 0 + k ≡ k = omega arith in rw e refl
take-past (x ∷ xs) ys k = let e : length (x ∷ xs) + k ≡ suc (length xs + k) = omega arith in rw e (ap (λ (t : List Event). x ∷ t) (take-past xs ys k))

-- all that it took is what was records_of before, and this
took_more : (handed : List Batch) (started : ℕ) (list list' more : List Event) → started ≤ length list
    → drop started list ≡ records_of handed → list' ≡ list ++ more → drop started list' ≡ records_of handed ++ more
took_more handed started list list' more within took e = rw (e, drop-within started list more within, took) refl

within_more : (started : ℕ) (list list' more : List Event) → started ≤ length list → list' ≡ list ++ more → started ≤ length list'
within_more started list list' more within e = omega (arith, length-append list more, ap length e)

took_after : (handed : List Batch) (b : Batch) (started : ℕ) (list list' : List Event) (why : Option Cause)
    → started ≤ length list → drop started list ≡ records_of handed → Puts list b.records list' why
    → TookBatches (handed ++ b ∷ []) (drop started list') why
took_after handed b started list list' None within took puts =
    took_more handed started list list' b.records within took puts.1 ∙ sym (records_of-snoc handed b)
took_after handed b started list list' (Some cause.Last) within took puts =
    took_more handed started list list' b.records within took
    (puts.1 ∙ (sym (append-nil list) ∙ ap (λ (r : List Event). list ++ r) (sym puts.0)))
    ∙ sym (records_of-snoc handed b)
took_after handed b started list list' (Some (cause.Sink fault)) within took puts = (
  length (records_of handed) + puts.0,
  omega (arith, ap length (records_of-snoc handed b), length-append (records_of handed) b.records, puts.1),
  took_more handed started list list' (take puts.0 b.records) within took puts.2
      ∙ (sym (take-past (records_of handed) b.records puts.0)
      ∙ ap (take (length (records_of handed) + puts.0)) (sym (records_of-snoc handed b))),
)
took_after handed b started list list' (Some cause.Turns) within took puts = absurd puts
took_after handed b started list list' (Some cause.Given) within took puts = absurd puts
took_after handed b started list list' (Some cause.Memory) within took puts = absurd puts

within_after : (started : ℕ) (list records list' : List Event) (why : Option Cause) → started ≤ length list
    → Puts list records list' why → started ≤ length list'
within_after started list records list' None within puts = within_more started list list' records within puts.1
within_after started list records list' (Some cause.Last) within puts = rw puts.1 within
within_after started list records list' (Some (cause.Sink fault)) within puts = within_more started list list' (take puts.0 records) within puts.2
within_after started list records list' (Some cause.Turns) within puts = absurd puts
within_after started list records list' (Some cause.Given) within puts = absurd puts
within_after started list records list' (Some cause.Memory) within puts = absurd puts

-- where one of the records was refused, there are some
abbrev HasRecords : Batch → Type 0
HasRecords b = b.records ≢ []

has_one : (b : Batch) (k : ℕ) → k < length b.records → HasRecords b
has_one b k below none = absurd (omega (arith, below, ap length none))

ended_after : (handed : List Batch) (b : Batch) (list list' : List Event) (why : Option Cause) → All HasRecords handed
    → Puts list b.records list' why → IsEndedBy (handed ++ b ∷ []) why
ended_after handed b list list' None had puts = All-push HasRecords handed b had puts.0
ended_after handed b list list' (Some cause.Last) had puts = (handed, b, refl, puts.0, had)
ended_after handed b list list' (Some (cause.Sink fault)) had puts = All-push HasRecords handed b had (has_one b puts.0 puts.1)
ended_after handed b list list' (Some cause.Turns) had puts = absurd puts
ended_after handed b list list' (Some cause.Given) had puts = absurd puts
ended_after handed b list list' (Some cause.Memory) had puts = absurd puts

-- a batch was taken
takes_sound : (old : ListenerState) (b : Batch) (new : ListenerState) → IsSoundListener old → Takes old b new → IsSoundListener new
takes_sound old b new h t =
    let Took : Option Cause → Type 0 = λ o. TookBatches old.handed (drop old.started old.list) o in
    let Ended : Option Cause → Type 0 = λ o. IsEndedBy old.handed o in
    let TookNow : List Batch → Type 0 = λ bs. TookBatches bs (drop new.started new.list) new.cause in
    let TookFrom : ℕ → Type 0 = λ n. TookBatches (old.handed ++ b ∷ []) (drop n new.list) new.cause in
    let EndedNow : List Batch → Type 0 = λ bs. IsEndedBy bs new.cause in
    let WithinFrom : ℕ → Type 0 = λ n. n ≤ length new.list in
    let took : drop old.started old.list ≡ records_of old.handed = subst Took t.on h.took in
    let had : All HasRecords old.handed = subst Ended t.on h.ended in
    record {
      received = (
        h.received.0,
        ap (λ f. f.received) t.feed
            ∙ (ap (λ bs. bs ++ b ∷ []) h.received.1
            ∙ (append_assoc h.received.0 old.handed (b ∷ []) ∙ ap (λ bs. h.received.0 ++ bs) (sym t.handed))),
      );
      took =
          subst TookNow (sym t.handed)
          (subst TookFrom (sym t.started)
          (took_after old.handed b old.started old.list new.list new.cause h.within took t.puts));
      ended = subst EndedNow (sym t.handed) (ended_after old.handed b old.list new.list new.cause had t.puts);
      open_until = t.open_until;
      within = subst WithinFrom (sym t.started) (within_after old.started old.list b.records new.list new.cause h.within t.puts);
    }

-- there was no memory for one more batch
stays_sound : (old : ListenerState) → IsSoundListener old → old.cause ≡ None → IsSoundListener (record old { is_open = false; cause = Some cause.Memory })
stays_sound old h on =
    let Took : Option Cause → Type 0 = λ o. TookBatches old.handed (drop old.started old.list) o in
    let Ended : Option Cause → Type 0 = λ o. IsEndedBy old.handed o in
    record {
      received = h.received;
      took = subst Took on h.took;
      ended = subst Ended on h.ended;
      open_until = refl;
      within = h.within;
    }

pub steps_sound : (old new : ListenerState) (s : Step) → IsSoundListener old → Steps old new s → IsSoundListener new
steps_sound old new step.Idle h steps = subst IsSoundListener (sym steps.1) h
steps_sound old new step.Took h steps = takes_sound old steps.0 new h steps.1
steps_sound old new step.Over h (inl p) = subst IsSoundListener (sym p.1) h
steps_sound old new step.Over h (inr p) = subst IsSoundListener (sym p.1) (stays_sound old h p.0)

module _ (passes : ℕ → ℕ → Bool → Type 0) where
  -- one turn more
  pub reaches_next : (n : ℕ) (a b c : ListenerState) → Reaches passes n a b → IsTurn passes n b c → Reaches passes (n + 1) a c
  reaches_next n a b c r t = let P : ℕ → Type 0 = λ k. Reaches passes k a c in subst P (sym (add-one n)) (b, r, t)

  reaches_idly : (n k : ℕ) (a b : ListenerState) → b.cause ≢ None → Reaches passes n a b → Reaches passes (n + k) a b
  reaches_idly n zero a b over r = let P : ℕ → Type 0 = λ m. Reaches passes m a b in let e : n ≡ n + 0 = omega arith in subst P e r
  reaches_idly n (suc k) a b over r =
      let P : ℕ → Type 0 = λ m. Reaches passes m a b in
      let e : suc (n + k) ≡ n + suc k = omega arith in subst P e (b, reaches_idly n k a b over r, inr (inr over, refl))

  -- turns more of one that has ended
  pub reaches_more : (n m : ℕ) (a b : ListenerState) → n ≤ m → b.cause ≢ None → Reaches passes n a b → Reaches passes m a b
  reaches_more n m a b within over r =
      let P : ℕ → Type 0 = λ k. Reaches passes k a b in
      let e : n + (m - n) ≡ m = omega arith in subst P e (reaches_idly n (m - n) a b over r)
