-- What comes after the event that says that a watch has ended.
use Rattle.std.proofs.Common.{◌≡◌, ◌≢◌, ◌==◌, ◌&&◌, ℕ, Bool, true, false, not, IsTrue, if◌then◌else◌, List, [], ◌∷◌}
use Rattle.std.proofs.Common.{◌++◌, Option, Some, None, refl, sym, ap, ◌∙◌, subst}
use Rattle.std.specs.Prelude.{ℤ, All, filter, map}
use Rattle.std.specs.Int.Bits.{and_zero_r}
use Rattle.std.proofs.lemmas.Bool.{eqb-true}
use Rattle.std.proofs.lemmas.List.{map-append}
use Rattle.std.proofs.lemmas.List.Elements.{All-nil, All-append, All-cons, All-weaker, filter-append}
use Rattle.record_codec.specs.declared.bits.TheConstants.{IN_IGNORED}
use Rattle.record_codec.specs.declared.event.Event.{Event}
use Rattle.watch_table.specs.declared.watch.Watch.{Watch}
use Rattle.watch_table.specs.Watching.{HasEnded, IsSound, Watching, dropped, watch_of, wd_of}
use Rattle.event_rules.specs.declared.notice.Notice.{Notice}
use Rattle.event_rules.specs.declared.notice.Notice.TheVariants.{Told, Gone}
use Rattle.event_rules.specs.Raised.{asks_for, ended, ended_by, ends_watch, events_of, ignored, is_oneshot, left}
use Rattle.event_rules.specs.Raised.{raised_at, told_number, watches_after, wds_ended}
use Rattle.event_rules.specs.Laws.{TellsNothing, says_ended}
use Rattle.event_rules.proofs.Removals.{left_by, raised, Known, left-IsSound, left-either, some_none, wd-of}
use Rattle.event_rules.proofs.Others.{raised-All}

-- what is known of descriptors whose watches end
pub record Ending : Type 0 where
  pub known : Known
  pub ends : (w : Watching) (wd : ℤ) (number : ℕ) → IsSound w → wd_of w number ≡ Some wd → HasEnded (dropped w number) wd
  pub stays : (w : Watching) (wd : ℤ) (number : ℕ) → HasEnded w wd → HasEnded (dropped w number) wd

-- ---- an event that was asked for does not say so

asks_nothing : (watch : Watch) → asks_for watch IN_IGNORED ≡ false
asks_nothing watch = ap (λ n. not (n == 0)) (and_zero_r watch.mask)

true_false : {b : Bool} → b ≡ true → b ≡ false → ⊥
true_false h k = cc

pub not_ended : (watch : Watch) (bits : ℕ) → asks_for watch bits ≡ true → (bits == IN_IGNORED) ≡ false
not_ended watch bits asked =
    elim (bits == IN_IGNORED) as (λ b. (bits == IN_IGNORED) ≡ b → b ≡ false) [
      | true ↦ λ is. absurd (true_false asked (ap (asks_for watch) (eqb-true bits IN_IGNORED is) ∙ asks_nothing watch))
      | false ↦ λ is. refl
    ] refl

-- ---- each watch that ends says so once

module _ (n : Notice) (watch : Watch) where
  said-told : (number bits cookie : ℕ) (name : Option (List ℕ)) (b c : Bool) → asks_for watch bits ≡ b
      → filter says_ended ((if b then record { wd = watch.wd; mask = bits; cookie = cookie; name = name } ∷ [] else [])
      ++ (if b && c then ignored watch.wd ∷ [] else []))
      ≡ map ignored (if b && c then watch.wd ∷ [] else [])
  said-told number bits cookie name false c is = refl
  said-told number bits cookie name true true is =
      ap (λ b. if b then record { wd = watch.wd; mask = bits; cookie = cookie; name = name } ∷ ignored watch.wd ∷ [] else ignored watch.wd ∷ [])
      (not_ended watch bits is)
  said-told number bits cookie name true false is =
      ap (λ b. if b then record { wd = watch.wd; mask = bits; cookie = cookie; name = name } ∷ [] else []) (not_ended watch bits is)

said-by : (n : Notice) (o : Option Watch) → filter says_ended (raised_at n o) ≡ map ignored (ended_by n o)
said-by n None = refl
said-by (Told number bits cookie name) (Some watch) = said-told (Gone number) watch number bits cookie name (asks_for watch bits) (is_oneshot watch) refl
said-by (Gone number) (Some watch) = refl

said-one : (w : Watching) (n : Notice) → filter says_ended (raised w n) ≡ map ignored (ended w n)
unfolding ended
said-one w n = said-by n (watch_of w (told_number n))

pub says_ended-wds : (w : Watching) (ns : List Notice) → filter says_ended (events_of w ns) ≡ map ignored (wds_ended w ns)
says_ended-wds w [] = refl
says_ended-wds w (n ∷ ns) =
    filter-append says_ended (raised w n) (events_of (left w n) ns)
    ∙ (λ i. said-one w n i ++ says_ended-wds (left w n) ns i)
    ∙ sym (map-append ignored (ended w n) (wds_ended (left w n) ns))

-- ---- no event is raised for a watch that has ended

pub HasEnded-left : Ending → (w : Watching) (n : Notice) (wd : ℤ) → HasEnded w wd → HasEnded (left w n) wd
HasEnded-left ending w n wd h = left-either (λ x. HasEnded x wd) w n h (ending.stays w wd (told_number n) h)

pub HasEnded-after : Ending → (w : Watching) (ns : List Notice) (wd : ℤ) → HasEnded w wd → HasEnded (watches_after w ns) wd
HasEnded-after ending w [] wd h = h
HasEnded-after ending w (n ∷ ns) wd h = HasEnded-after ending (left w n) ns wd (HasEnded-left ending w n wd h)

module _ (ending : Ending) where
  pub events_of-HasEnded : (w : Watching) (ns : List Notice) (wd : ℤ) → IsSound w → HasEnded w wd → TellsNothing wd (events_of w ns)
  events_of-HasEnded w [] wd sound h = All-nil (λ (e : Event). e.wd ≢ wd)
  events_of-HasEnded w (n ∷ ns) wd sound h =
      All-append (λ (e : Event). e.wd ≢ wd) (raised w n) (events_of (left w n) ns)
      (raised-All (λ x. x ≢ wd) w n
      (λ watch is same. some_none h.unwatched ((ending.known.tells w wd (told_number n) sound).1 (wd-of w (told_number n) watch is ∙ ap Some same))))
      (events_of-HasEnded (left w n) ns wd (left-IsSound ending.known w n sound) (HasEnded-left ending w n wd h))

  -- ---- the watches that end are not left

  one-ended : (w : Watching) (n : Notice) (o : Option Watch) → IsSound w → watch_of w (told_number n) ≡ o → All (HasEnded (left_by w n o)) (ended_by n o)
  one-ended w n None sound is = All-nil (HasEnded w)
  one-ended w n (Some watch) sound is = by (ends_watch n watch)
    where
      by : (b : Bool) → All (HasEnded (if b then dropped w (told_number n) else w)) (if b then watch.wd ∷ [] else [])
      by true =
          All-cons (HasEnded (dropped w (told_number n))) watch.wd []
          (ending.ends w watch.wd (told_number n) sound (wd-of w (told_number n) watch is)) (All-nil (HasEnded (dropped w (told_number n))))
      by false = All-nil (HasEnded w)

  ended-HasEnded : (w : Watching) (n : Notice) → IsSound w → All (HasEnded (left w n)) (ended w n)
  unfolding left ended
  ended-HasEnded w n sound = one-ended w n (watch_of w (told_number n)) sound refl

  pub wds_ended-HasEnded : (w : Watching) (ns : List Notice) → IsSound w → All (HasEnded (watches_after w ns)) (wds_ended w ns)
  wds_ended-HasEnded w [] sound = All-nil (HasEnded w)
  wds_ended-HasEnded w (n ∷ ns) sound =
      All-append (HasEnded (watches_after (left w n) ns)) (ended w n) (wds_ended (left w n) ns)
      (All-weaker (HasEnded (left w n)) (HasEnded (watches_after (left w n) ns)) (λ wd. HasEnded-after ending (left w n) ns wd)
      (ended w n) (ended-HasEnded w n sound))
      (wds_ended-HasEnded (left w n) ns (left-IsSound ending.known w n sound))

-- ---- in one list

-- behind each event that says that a watch has ended there is nothing of the watch
abbrev Quiet : List Event → Type 0
Quiet [] = Unit {0}
Quiet (e ∷ es) = (IsTrue (says_ended e) → TellsNothing e.wd es) × Quiet es

quiet-behind : (before after : List Event) (e : Event) → Quiet (before ++ e ∷ after) → IsTrue (says_ended e) → TellsNothing e.wd after
quiet-behind [] after e q said = q.0 said
quiet-behind (x ∷ before) after e q said = quiet-behind before after e q.1 said

quiet-told : (watch : Watch) (bits cookie : ℕ) (name : Option (List ℕ)) (rest : List Event) (b c : Bool) → asks_for watch bits ≡ b → Quiet rest
    → ((b && c) ≡ true → TellsNothing watch.wd rest)
    → Quiet (((if b then record { wd = watch.wd; mask = bits; cookie = cookie; name = name } ∷ [] else []) ++ (if b && c then ignored watch.wd ∷ [] else []))
    ++ rest)
quiet-told watch bits cookie name rest false c is q over = q
quiet-told watch bits cookie name rest true true is q over = (λ said. absurd (true_false said (not_ended watch bits is)), (λ said. over refl, q))
quiet-told watch bits cookie name rest true false is q over = (λ said. absurd (true_false said (not_ended watch bits is)), q)

module _ (ending : Ending) where
  quiet-by : (w : Watching) (n : Notice) (o : Option Watch) (rest : List Event) → IsSound w → watch_of w (told_number n) ≡ o → Quiet rest
      → ((wd : ℤ) → HasEnded (left_by w n o) wd → TellsNothing wd rest) → Quiet (raised_at n o ++ rest)
  quiet-by w n None rest sound is q over = q
  quiet-by w (Told number bits cookie name) (Some watch) rest sound is q over =
      quiet-told watch bits cookie name rest (asks_for watch bits) (is_oneshot watch) refl q
      (λ both. over watch.wd (subst (λ b. HasEnded (if b then dropped w number else w) watch.wd) (sym both)
      (ending.ends w watch.wd number sound (wd-of w number watch is))))
  quiet-by w (Gone number) (Some watch) rest sound is q over = (λ said. over watch.wd (ending.ends w watch.wd number sound (wd-of w number watch is)), q)

  quiet-one : (w : Watching) (n : Notice) (rest : List Event) → IsSound w → Quiet rest
      → ((wd : ℤ) → HasEnded (left w n) wd → TellsNothing wd rest) → Quiet (raised w n ++ rest)
  unfolding left
  quiet-one w n rest sound q over = quiet-by w n (watch_of w (told_number n)) rest sound refl q over

  quiet-events : (w : Watching) (ns : List Notice) → IsSound w → Quiet (events_of w ns)
  quiet-events w [] sound = tt
  quiet-events w (n ∷ ns) sound =
      let still = left-IsSound ending.known w n sound in
      quiet-one w n (events_of (left w n) ns) sound (quiet-events (left w n) ns still) (λ wd. events_of-HasEnded ending (left w n) ns wd still)

  pub nothing_behind : (w : Watching) (ns : List Notice) (before after : List Event) (e : Event) → IsSound w
      → events_of w ns ≡ before ++ e ∷ after → IsTrue (says_ended e) → TellsNothing e.wd after
  nothing_behind w ns before after e sound is said = quiet-behind before after e (subst Quiet is (quiet-events w ns sound)) said
