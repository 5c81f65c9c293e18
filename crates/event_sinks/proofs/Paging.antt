-- What a sink wrote, over records and batches that are put into it one after another.
use Rattle.std.proofs.Common.{◌<◌, ◌-◌, ◌^◌, inl, inr, arith, ◌≡◌, ◌≢◌, ℕ, Bool, true, false, subst, ◌∙◌, sym, ap, refl}
use Rattle.std.proofs.Common.{List, [], ◌∷◌, ◌++◌, append-nil, append_assoc}
use Rattle.std.specs.Prelude.{Some, None, Option, flat_map}
use Rattle.std.specs.Bool.{then_some}
use Rattle.std.specs.Io.KnownBytes.{Appends}
use Rattle.std.proofs.KnownBytes.{Appends-nil, Appends-trans}
use Rattle.std.proofs.lemmas.Grind.{flat_map-append}
use Rattle.record_codec.specs.declared.event.Event.{Event}
use Rattle.record_codec.specs.Ports.{one_more}
use Rattle.shared_tree.specs.declared.pipe.Batch.{Batch}
use Rattle.shared_tree.specs.Handed.{records_of}
use Rattle.event_sinks.specs.declared.listener.Cause.{Cause}
use Rattle.event_sinks.specs.declared.listener.Cause.TheVariants as cause
use Rattle.event_sinks.specs.declared.listener.Listening.{Listening}
use Rattle.event_sinks.specs.Listeners.{cause_or}
use Rattle.event_sinks.specs.Pages.{ClosesText, UnfailingTextsAreWhole, Gains, Page, Writes, WritesClose, WritesRecords}
use Rattle.event_sinks.proofs.Answering.{records_of-append}

pub gains_nothing : (p : Page) → Gains p [] p
gains_nothing p = (Appends-nil p.bytes, refl)

gains_trans : (a b c : Page) (xs ys : List ℕ) → Gains a xs b → Gains b ys c → Gains a (xs ++ ys) c
gains_trans a b c xs ys f g = (Appends-trans a.bytes b.bytes c.bytes xs ys f.0 g.0, g.1 ∙ ap (λ (p : Page). record p { bytes = c.bytes }) f.1)

-- the lines of records, and of more
pub gains_on : (a b c : Page) (xs ys : List Event) → Gains a (flat_map a.line xs) b → Gains b (flat_map b.line ys) c → Gains a (flat_map a.line (xs ++ ys)) c
gains_on a b c xs ys f g =
    let line : b.line ≡ a.line = ap (λ (p : Page). p.line) f.1 in
    let g' : Gains b (flat_map a.line ys) c = subst (λ (l : Event → List ℕ). Gains b (flat_map l ys) c) line g in
    subst (λ (t : List ℕ). Gains a t c) (sym (flat_map-append a.line xs ys)) (gains_trans a b c (flat_map a.line xs) (flat_map a.line ys) f g')

-- and of one more
pub gains_one : (a b c : Page) (xs : List Event) (e : Event) → Gains a (flat_map a.line xs) b → Gains b (b.line e) c
    → Gains a (flat_map a.line (xs ++ e ∷ [])) c
gains_one a b c xs e f g = gains_on a b c xs (e ∷ []) f (subst (λ (t : List ℕ). Gains b t c) (sym (append-nil (b.line e))) g)

closes_whole : (old last new : Page) (taken : ℕ) → last ≡ record old { bytes = last.bytes } → ClosesText last taken new
    → new.faults ≡ old.faults → old.faults < 2 ^ 64 - 1 → Appends last.bytes new.bytes (old.closing taken)
closes_whole old last new taken same (inl all) none below =
    subst (λ (f : ℕ → List ℕ). Appends last.bytes new.bytes (f taken)) (ap (λ (p : Page). p.closing) same) all.0
closes_whole old last new taken same (inr front) none below =
    let more : new.faults ≡ one_more last.faults = ap (λ (p : Page). p.faults) front.1 in
    let was : last.faults ≡ old.faults = ap (λ (p : Page). p.faults) same in
    let both : old.faults ≡ one_more old.faults = sym none ∙ (more ∙ ap one_more was) in
    absurd (omega (arith, both, below))

pub unfailing_whole : UnfailingTextsAreWhole
unfailing_whole old last new records taken lines close none below =
    Appends-trans old.bytes last.bytes new.bytes (flat_map old.line records) (old.closing taken) lines.0
    (closes_whole old last new taken lines.1 close none below)

module _ {S : Type 0} (record_list : S → List Event) (page : S → Page) where
  -- all of some records were taken
  abbrev pub TookAll : S → List Event → S → Type 0
  TookAll old records new = WritesRecords record_list page old records new None

  took_on : (old mid new : S) (xs ys : List Event) → TookAll old xs mid → TookAll mid ys new → TookAll old (xs ++ ys) new
  took_on old mid new xs ys f g = (
    g.0 ∙ (ap (λ (l : List Event). l ++ ys) f.0 ∙ append_assoc (record_list old) xs ys),
    gains_on (page old) (page mid) (page new) xs ys f.1 g.1,
  )

  -- and then more were put
  records_on : (old mid new : S) (xs ys : List Event) (why : Option Cause) → TookAll old xs mid
      → WritesRecords record_list page mid ys new why → WritesRecords record_list page old (xs ++ ys) new why
  records_on old mid new xs ys None f g = took_on old mid new xs ys f g
  records_on old mid new xs ys (Some (cause.Sink fault)) f g = (
    xs ++ g.0,
    g.1,
    g.2,
    ap (λ (l : List Event). xs ++ l) g.3 ∙ sym (append_assoc xs g.0 (g.1 ∷ g.2)),
    g.4 ∙ (ap (λ (l : List Event). l ++ g.0) f.0 ∙ append_assoc (record_list old) xs g.0),
    g.5,
    gains_on (page old) (page mid) g.5 xs g.0 f.1 g.6,
    g.7,
  )
  records_on old mid new xs ys (Some cause.Last) f g = took_on old mid new xs ys f g
  records_on old mid new xs ys (Some cause.Turns) f g = took_on old mid new xs ys f g
  records_on old mid new xs ys (Some cause.Given) f g = took_on old mid new xs ys f g
  records_on old mid new xs ys (Some cause.Memory) f g = took_on old mid new xs ys f g

  writes_on : (old mid new : S) (xs ys : List Event) (why : Option Cause) → TookAll old xs mid
      → Writes record_list page mid ys new why → Writes record_list page old (xs ++ ys) new why
  writes_on old mid new xs ys None f g = took_on old mid new xs ys f g
  writes_on old mid new xs ys (Some why) f g = (g.0, records_on old mid g.0 xs ys (Some why) f g.1, g.2)

  -- WritesBatches of an intake, by its sink and its batches
  abbrev WritesMore : S → List Batch → S → List Batch → Option Cause → Type 0
  WritesMore old handed new handed' why = (batches : List Batch) × (handed' ≡ handed ++ batches) × Writes record_list page old (records_of batches) new why

  batches_on : (old mid new : S) (handed handed' handed'' : List Batch) (why : Option Cause)
      → WritesMore old handed mid handed' None → WritesMore mid handed' new handed'' why
      → WritesMore old handed new handed'' why
  batches_on old mid new handed handed' handed'' why f g = (
    f.0 ++ g.0,
    g.1 ∙ (ap (λ (bs : List Batch). bs ++ g.0) f.1 ∙ append_assoc handed f.0 g.0),
    subst (λ (r : List Event). Writes record_list page old r new why) (sym (records_of-append f.0 g.0))
        (writes_on old mid new (records_of f.0) (records_of g.0) why f.2 g.2),
  )

  -- and it was the end batch, or not
  pub all_put : (old new : S) (records : List Event) (is_last : Bool) → TookAll old records new
      → WritesRecords record_list page old records new (then_some is_last cause.Last)
  all_put old new records true f = f
  all_put old new records false f = f

  -- nothing was put
  pub nothing_put : (s : S) → TookAll s [] s
  nothing_put s = (sym (append-nil (record_list s)), gains_nothing (page s))

  -- what a listener's sink wrote since it was `first`
  module _ (first : S) (handed : List Batch) where
    abbrev pub Since : Listening S → Type 0
    Since l = WritesMore first handed l.intake.sink l.intake.handed.items l.cause

    -- where the listener goes on
    pub turn_writes : (old new : Listening S) (was : Option Cause) → old.cause ≡ was → Since old
        → (old.cause ≡ None
        → WritesMore old.intake.sink old.intake.handed.items new.intake.sink new.intake.handed.items new.cause)
        → (old.cause ≢ None → new ≡ old) → Since new
    turn_writes old new None is f g rests =
        batches_on first old.intake.sink new.intake.sink handed old.intake.handed.items new.intake.handed.items
        new.cause
        (subst (λ (o : Option Cause). WritesMore first handed old.intake.sink old.intake.handed.items o) is f)
        (g is)
    turn_writes old new (Some why) is f g rests = subst Since (sym (rests (λ none. absurd (cc)))) f

    -- where it was ended from outside, by a cause that is not its sink's
    pub end_writes : (old : Listening S) (new : S) (after : List Batch) (was : Option Cause) (is other : Cause)
        → old.cause ≡ was → after ≡ old.intake.handed.items → Some is ≡ Some (cause_or was other)
        → WritesRecords record_list page old.intake.sink [] old.intake.sink (Some other)
        → Since old → (old.cause ≡ None → WritesClose record_list page old.intake.sink new)
        → (old.cause ≢ None → new ≡ old.intake.sink) → WritesMore first handed new after (Some is)
    end_writes old new after None is other same all why outside f closes rests =
        let on : WritesMore first handed old.intake.sink old.intake.handed.items None =
        subst (λ (o : Option Cause). WritesMore first handed old.intake.sink old.intake.handed.items o) same f in
        let close : WritesMore old.intake.sink old.intake.handed.items new after (Some other) =
        ([], all ∙ sym (append-nil old.intake.handed.items), (old.intake.sink, outside, closes same)) in
        subst (λ (o : Option Cause). WritesMore first handed new after o) (sym why)
        (batches_on first old.intake.sink new handed old.intake.handed.items after (Some other) on close)
    end_writes old new after (Some c) is other same all why outside f closes rests =
        let sink : new ≡ old.intake.sink = rests (λ none. absurd (cc)) in
        let on : WritesMore first handed old.intake.sink old.intake.handed.items (Some is) =
        subst (λ (o : Option Cause). WritesMore first handed old.intake.sink old.intake.handed.items o)
        (same ∙ sym why) f in
        subst (λ (bs : List Batch). WritesMore first handed new bs (Some is)) (sym all)
        (subst (λ (s : S). WritesMore first handed s old.intake.handed.items (Some is)) (sym sink) on)

-- a listener that had ended stays as it was
module _ {S : Type 0} (first : Listening S) where
  still_over : (l : Listening S) → l ≡ first → first.cause ≢ None → l.cause ≢ None
  still_over l same over = subst (λ (x : Listening S). x.cause ≢ None) (sym same) over

  pub stays_over : (old new : Listening S) → old ≡ first → (old.cause ≢ None → new ≡ old) → first.cause ≢ None → new ≡ first
  stays_over old new same rests over = rests (still_over old same over) ∙ same

  pub over_still : (l : Listening S) (new : S) → l ≡ first → (l.cause ≢ None → new ≡ l.intake.sink) → first.cause ≢ None → new ≡ first.intake.sink
  over_still l new same rests over = rests (still_over l same over) ∙ ap (λ (x : Listening S). x.intake.sink) same
