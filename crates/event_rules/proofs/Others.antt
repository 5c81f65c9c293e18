-- The watches that notices leave, and those that they do not touch.
use Rattle.std.proofs.Common.{◌≡◌, ◌⊎◌, ℕ, Bool, true, false, if◌then◌else◌, List, [], ◌∷◌, ◌++◌, Option, Some, None, refl, sym, ap, ◌∙◌, inl, inr, lit<}
use Rattle.std.specs.Prelude.{ℤ, All, Contains, option_map}
use Rattle.std.proofs.lemmas.List.Elements.{All-nil, All-append, All-cons, All-head, All-tail, All-weaker, Contains-append_left, Contains-append_right}
use Rattle.record_codec.specs.declared.event.Event.{Event}
use Rattle.watch_table.specs.declared.watch.Watch.{Watch}
use Rattle.watch_table.specs.Watching.{IsSound, Watching, dropped, watch_of}
use Rattle.event_rules.specs.declared.notice.Notice.{Notice}
use Rattle.event_rules.specs.declared.notice.Notice.TheVariants.{Told, Gone}
use Rattle.event_rules.specs.Raised.{asks_for, ended, ended_by, ends_watch, event_told, events_of, ignored, left}
use Rattle.event_rules.specs.Raised.{raised_at, told_number, watches_after, wds_ended, where_ended}
use Rattle.event_rules.specs.Laws.{HasWatch, IsPartOf}
use Rattle.event_rules.proofs.Removals.{left_by, raised, dropped-other, dropped-was, left-either, same_or_not, same_some, some_none, wd-of}

-- ---- files that are not watched

module _ (w : Watching) (n : Notice) (unwatched : watch_of w (told_number n) ≡ None) where
  pub raised-none : raised w n ≡ []
  raised-none = ap (raised_at n) unwatched

  ended-none : ended w n ≡ []
  unfolding ended
  ended-none = ap (ended_by n) unwatched

  pub left-none : left w n ≡ w
  unfolding left
  left-none = ap (left_by w n) unwatched

abbrev Unwatched : Watching → List Notice → Type 0
Unwatched w ns = All (λ n. watch_of w (told_number n) ≡ None) ns

module _ (w : Watching) where
  here : (n : Notice) (ns : List Notice) → Unwatched w (n ∷ ns) → watch_of w (told_number n) ≡ None
  here n ns h = All-head (λ (m : Notice). watch_of w (told_number m) ≡ None) n ns h

  there : (n : Notice) (ns : List Notice) → Unwatched w (n ∷ ns) → Unwatched w ns
  there n ns h = All-tail (λ (m : Notice). watch_of w (told_number m) ≡ None) n ns h

  pub events_of-unwatched : (ns : List Notice) → Unwatched w ns → events_of w ns ≡ []
  events_of-unwatched [] h = refl
  events_of-unwatched (n ∷ ns) h =
      (λ i. raised-none w n (here n ns h) i ++ events_of (left-none w n (here n ns h) i) ns) ∙ events_of-unwatched ns (there n ns h)

  pub wds_ended-unwatched : (ns : List Notice) → Unwatched w ns → wds_ended w ns ≡ []
  wds_ended-unwatched [] h = refl
  wds_ended-unwatched (n ∷ ns) h =
      (λ i. ended-none w n (here n ns h) i ++ wds_ended (left-none w n (here n ns h) i) ns) ∙ wds_ended-unwatched ns (there n ns h)

  pub watches_after-unwatched : (ns : List Notice) → Unwatched w ns → watches_after w ns ≡ w
  watches_after-unwatched [] h = refl
  watches_after-unwatched (n ∷ ns) h = ap (λ x. watches_after x ns) (left-none w n (here n ns h)) ∙ watches_after-unwatched ns (there n ns h)

-- ---- what is left was there

part-itself : (w : Watching) → IsPartOf w w
part-itself w = record { watches = λ number watch h. h; next_wd = refl; most_watches = refl; last_wd = refl }

part-dropped : (w : Watching) (number : ℕ) → IsPartOf (dropped w number) w
unfolding dropped
part-dropped w number = record { watches = λ n watch h. (dropped-was w number n watch h).1; next_wd = refl; most_watches = refl; last_wd = refl }

part-part : (a b c : Watching) → IsPartOf a b → IsPartOf b c → IsPartOf a c
part-part a b c h k = record {
  watches = λ number watch is. k.watches number watch (h.watches number watch is);
  next_wd = h.next_wd ∙ k.next_wd;
  most_watches = h.most_watches ∙ k.most_watches;
  last_wd = h.last_wd ∙ k.last_wd;
}

pub part-left : (w : Watching) (n : Notice) → IsPartOf (left w n) w
part-left w n = left-either (λ x. IsPartOf x w) w n (part-itself w) (part-dropped w (told_number n))

pub part-after : (w : Watching) (ns : List Notice) → IsPartOf (watches_after w ns) w
part-after w [] = part-itself w
part-after w (n ∷ ns) = part-part (watches_after (left w n) ns) (left w n) w (part-after (left w n) ns) (part-left w n)

pub after-IsSound : ((w : Watching) (number : ℕ) → IsSound w → IsSound (dropped w number)) → (w : Watching) (ns : List Notice)
    → IsSound w → IsSound (watches_after w ns)
after-IsSound by_drop w [] sound = sound
after-IsSound by_drop w (n ∷ ns) sound = after-IsSound by_drop (left w n) ns (left-either IsSound w n sound (by_drop w (told_number n) sound))

-- ---- a watch that was there is left, or has ended

module _ (w : Watching) (number : ℕ) (watch : Watch) (is : watch_of w number ≡ Some watch) where
  alone : (x : Watch) → watch_of w number ≡ Some x → Contains (x.wd ∷ []) watch.wd
  alone x h = (0, lit< tt, ap (λ (y : Watch). y.wd) (same_some (sym h ∙ is)))

  stays-by : (n : Notice) (o : Option Watch) → watch_of w (told_number n) ≡ o
      → (watch_of (left_by w n o) number ≡ Some watch) ⊎ Contains (ended_by n o) watch.wd
  stays-by n None at = inl is
  stays-by n (Some x) at = by (ends_watch n x)
    where
      by : (b : Bool) → (watch_of (if b then dropped w (told_number n) else w) number ≡ Some watch) ⊎ Contains (if b then x.wd ∷ [] else []) watch.wd
      by true = elim (same_or_not number (told_number n)) [
        | inl t ↦ inr (alone x (ap (watch_of w) t.0 ∙ at))
        | inr t ↦ inl (dropped-other w (told_number n) number t.0 ∙ is)
      ]
      by false = inl is

  stays : (n : Notice) → (watch_of (left w n) number ≡ Some watch) ⊎ Contains (ended w n) watch.wd
  unfolding left ended
  stays n = stays-by n (watch_of w (told_number n)) refl

pub stays_or_ended : (w : Watching) (ns : List Notice) (number : ℕ) (watch : Watch) → watch_of w number ≡ Some watch
    → (watch_of (watches_after w ns) number ≡ Some watch) ⊎ Contains (wds_ended w ns) watch.wd
stays_or_ended w [] number watch is = inl is
stays_or_ended w (n ∷ ns) number watch is =
    elim (stays w number watch is n) [
      | inl t ↦ elim (stays_or_ended (left w n) ns number watch t) [
        | inl u ↦ inl u
        | inr u ↦ inr (Contains-append_right (ended w n) (wds_ended (left w n) ns) watch.wd u)
      ]
      | inr t ↦ inr (Contains-append_left (ended w n) (wds_ended (left w n) ns) watch.wd t)
    ]

-- ---- whose events are raised

module _ (P : ℤ → Type 0) (watch : Watch) (holds : P watch.wd) where
  if-All : (b : Bool) (e : Event) → P e.wd → All (λ (x : Event). P x.wd) (if b then e ∷ [] else [])
  if-All true e h = All-cons (λ (x : Event). P x.wd) e [] h (All-nil (λ (x : Event). P x.wd))
  if-All false e h = All-nil (λ (x : Event). P x.wd)

  told-All : (n : Notice) → All (λ (x : Event). P x.wd) (event_told n watch)
  told-All (Told number bits cookie name) = if-All (asks_for watch bits) (record { wd = watch.wd; mask = bits; cookie = cookie; name = name }) holds
  told-All (Gone number) = All-nil (λ (x : Event). P x.wd)

  pub raised_at-All : (n : Notice) → All (λ (x : Event). P x.wd) (raised_at n (Some watch))
  raised_at-All n =
      All-append (λ (x : Event). P x.wd) (event_told n watch) (where_ended n watch (ignored watch.wd ∷ [])) (told-All n)
      (if-All (ends_watch n watch) (ignored watch.wd) holds)

module _ (P : ℤ → Type 0) (w : Watching) (n : Notice) where
  raised-All-by : (o : Option Watch) → ((watch : Watch) → o ≡ Some watch → P watch.wd) → All (λ (x : Event). P x.wd) (raised_at n o)
  raised-All-by None h = All-nil (λ (x : Event). P x.wd)
  raised-All-by (Some watch) h = raised_at-All P watch (h watch refl) n

  pub raised-All : ((watch : Watch) → watch_of w (told_number n) ≡ Some watch → P watch.wd) → All (λ (x : Event). P x.wd) (raised w n)
  raised-All h = raised-All-by (watch_of w (told_number n)) h

a_watch : (o : Option Watch) (wd : ℤ) → option_map (λ (x : Watch). x.wd) o ≡ Some wd → (watch : Watch) × ((o ≡ Some watch) × (watch.wd ≡ wd))
a_watch None wd h = absurd (some_none refl h)
a_watch (Some watch) wd h = (watch, (refl, same_some h))

HasWatch-part : (part w : Watching) (wd : ℤ) → IsPartOf part w → HasWatch part wd → HasWatch w wd
HasWatch-part part w wd h has =
    let found = a_watch (watch_of part has.0) wd has.1 in
    (has.0, wd-of w has.0 found.0 (h.watches has.0 found.0 found.1.0) ∙ ap Some found.1.1)

pub events_of-HasWatch : (w : Watching) (ns : List Notice) → All (λ (e : Event). HasWatch w e.wd) (events_of w ns)
events_of-HasWatch w [] = All-nil (λ (e : Event). HasWatch w e.wd)
events_of-HasWatch w (n ∷ ns) =
    All-append (λ (e : Event). HasWatch w e.wd) (raised w n) (events_of (left w n) ns)
    (raised-All (HasWatch w) w n (λ watch is. (told_number n, wd-of w (told_number n) watch is)))
    (All-weaker (λ (e : Event). HasWatch (left w n) e.wd) (λ (e : Event). HasWatch w e.wd)
    (λ e h. HasWatch-part (left w n) w e.wd (part-left w n) h) (events_of (left w n) ns) (events_of-HasWatch (left w n) ns))
