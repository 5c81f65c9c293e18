-- What a sink answers to records that are put into it one after another.
use Rattle.std.proofs.Common.{◌≡◌, ℕ, Bool, subst, ◌∙◌, sym, ap, refl, ◌+◌, ◌<◌, inl, inr, List, [], ◌∷◌, ◌++◌, length}
use Rattle.std.proofs.Common.{take, drop, get_or, append_assoc, take-append-drop, Err}
use Rattle.std.specs.Prelude.{Some, None, Option}
use Rattle.std.proofs.lemmas.List.{drop_more}
use Rattle.record_codec.specs.declared.event.Event.{Event}
use Rattle.shared_tree.specs.declared.pipe.Batch.{Batch}
use Rattle.shared_tree.specs.Handed.{records_of}
use Rattle.event_sinks.specs.declared.listener.Cause.{Cause}
use Rattle.event_sinks.specs.declared.listener.Cause.TheVariants as cause
use Rattle.event_sinks.specs.declared.listener.Step.{Step}
use Rattle.event_sinks.specs.declared.listener.Step.TheVariants as step
use Rattle.event_sinks.specs.Listeners.{Answers, ListenerState, IsTurn, Steps, cause_or}
use Rattle.event_sinks.specs.Sinks.{Foretells, MayAnswer}

pub foretells_on : (a b c : MayAnswer) (xs ys : List Event) → Foretells a xs b → Foretells b ys c → Foretells a (xs ++ ys) c
foretells_on a b c xs ys f g more next answer h =
    subst (λ (l : List Event). a l next answer) (sym (append_assoc xs ys more))
    (f (ys ++ more) next answer (g more next answer h))

-- a list around one of its indexes
pub parted : (xs : List Event) (i : ℕ) (x : Event) → i < length xs → x ≡ get_or xs i x → xs ≡ take i xs ++ x ∷ drop (i + 1) xs
parted xs i x within is =
    sym (take-append-drop i xs) ∙ ap (λ (l : List Event). take i xs ++ l) (drop_more xs i x within ∙ ap (λ (y : Event). y ∷ drop (i + 1) xs) (sym is))

pub records_of-append : (xs ys : List Batch) → records_of (xs ++ ys) ≡ records_of xs ++ records_of ys
records_of-append [] ys = refl
records_of-append (x ∷ xs) ys = ap (λ (r : List Event). x.records ++ r) (records_of-append xs ys) ∙ sym (append_assoc x.records (records_of xs) (records_of ys))

still_ended : (passes : ℕ → ℕ → Bool → Type 0) (turn : ℕ) (old new : ListenerState) (c : Cause) → old.cause ≡ Some c → IsTurn passes turn old new → new ≡ old
still_ended passes turn old new c is (inr p) = p.1
still_ended passes turn old new c is (inl p) = by_step p.1.0 p.1.1
  where
    by_step : (s : Step) → Steps old new s → new ≡ old
    by_step step.Idle q = q.1
    by_step step.Took q = absurd (cc (is, q.1.on))
    by_step step.Over (inl q) = q.1
    by_step step.Over (inr q) = absurd (cc (is, q.0))

module _ {S : Type 0} (record_list : S → List Event) (may_answer : S → MayAnswer) where
  -- a sink that was closed after what it answered
  pub closed_after : (old mid new : S) (records : List Event) (c : Cause) → record_list new ≡ record_list mid
      → Answers record_list may_answer old records mid (Some c)
      → Answers record_list may_answer old records new (Some c)
  closed_after old mid new records (cause.Sink fault) same h = (h.0, h.1, h.2, h.3, same ∙ h.4, h.5)
  closed_after old mid new records cause.Last same h = tt
  closed_after old mid new records cause.Turns same h = tt
  closed_after old mid new records cause.Given same h = tt
  closed_after old mid new records cause.Memory same h = tt

  -- records, and then more
  answers_on : (old mid new : S) (xs ys : List Event) (why : Option Cause)
      → Answers record_list may_answer old xs mid None → Answers record_list may_answer mid ys new why
      → Answers record_list may_answer old (xs ++ ys) new why
  answers_on old mid new xs ys None f g = (
    g.0 ∙ (ap (λ (l : List Event). l ++ ys) f.0 ∙ append_assoc (record_list old) xs ys),
    foretells_on (may_answer old) (may_answer mid) (may_answer new) xs ys f.1 g.1,
  )
  answers_on old mid new xs ys (Some (cause.Sink fault)) f g = (
    xs ++ g.0,
    g.1,
    g.2,
    ap (λ (l : List Event). xs ++ l) g.3 ∙ sym (append_assoc xs g.0 (g.1 ∷ g.2)),
    g.4 ∙ (ap (λ (l : List Event). l ++ g.0) f.0 ∙ append_assoc (record_list old) xs g.0),
    f.1 g.0 g.1 (Err fault) g.5,
  )
  answers_on old mid new xs ys (Some cause.Last) f g = tt
  answers_on old mid new xs ys (Some cause.Turns) f g = tt
  answers_on old mid new xs ys (Some cause.Given) f g = tt
  answers_on old mid new xs ys (Some cause.Memory) f g = tt

  -- AnswersBatches of an intake, by its sink and its batches
  abbrev AnswersMore : S → List Batch → S → List Batch → Option Cause → Type 0
  AnswersMore old handed new handed' why =
      (batches : List Batch) × (handed' ≡ handed ++ batches)
      × Answers record_list may_answer old (records_of batches) new why

  batches_on : (old mid new : S) (handed handed' handed'' : List Batch) (why : Option Cause)
      → AnswersMore old handed mid handed' None → AnswersMore mid handed' new handed'' why
      → AnswersMore old handed new handed'' why
  batches_on old mid new handed handed' handed'' why f g = (
    f.0 ++ g.0,
    g.1 ∙ (ap (λ (bs : List Batch). bs ++ g.0) f.1 ∙ append_assoc handed f.0 g.0),
    subst (λ (r : List Event). Answers record_list may_answer old r new why) (sym (records_of-append f.0 g.0))
        (answers_on old mid new (records_of f.0) (records_of g.0) why f.2 g.2),
  )

  -- the sink, what was handed and the cause of a listener that goes on, and of what it was
  module _ (first : S) (handed : List Batch) (old new : S) (before after : List Batch) where
    pub turn_answers : (passes : ℕ → ℕ → Bool → Type 0) (turn : ℕ) (was is : Option Cause) (h h' : ListenerState)
        → h.cause ≡ was → h.handed ≡ before → h.list ≡ record_list old → h'.cause ≡ is → h'.handed ≡ after
        → h'.list ≡ record_list new
        → IsTurn passes turn h h' → AnswersMore first handed old before was
        → (was ≡ None → AnswersMore old before new after is) → AnswersMore first handed new after is
    turn_answers passes turn None is h h' w0 w1 w2 i0 i1 i2 goes f g = batches_on first old new handed before after is f (g refl)
    turn_answers passes turn (Some c) is h h' w0 w1 w2 i0 i1 i2 goes f g =
        let same : h' ≡ h = still_ended passes turn h h' c w0 goes in
        let why : is ≡ Some c = sym i0 ∙ (ap (λ (x : ListenerState). x.cause) same ∙ w0) in
        let all : after ≡ before = sym i1 ∙ (ap (λ (x : ListenerState). x.handed) same ∙ w1) in
        let list : record_list new ≡ record_list old = sym i2 ∙ (ap (λ (x : ListenerState). x.list) same ∙ w2) in
        subst (λ (o : Option Cause). AnswersMore first handed new after o) (sym why) (f.0, all ∙ f.1, closed_after first old new (records_of f.0) c list f.2)

    -- and of one that has ended
    pub end_answers : (was : Option Cause) (is other : Cause) → after ≡ before → record_list new ≡ record_list old
        → Some is ≡ Some (cause_or was other)
        → ((records : List Event) → Answers record_list may_answer first records new (Some other))
        → AnswersMore first handed old before was → AnswersMore first handed new after (Some is)
    end_answers None is other all list why outside f =
        subst (λ (o : Option Cause). AnswersMore first handed new after o) (sym why)
        (f.0, all ∙ f.1, outside (records_of f.0))
    end_answers (Some c) is other all list why outside f =
        subst (λ (o : Option Cause). AnswersMore first handed new after o) (sym why) (f.0, all ∙ f.1, closed_after first old new (records_of f.0) c list f.2)
