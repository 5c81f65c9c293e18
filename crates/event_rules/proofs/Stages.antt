-- One notice more.
use Rattle.std.proofs.Common.{◌≡◌, ℕ, true, ◌+◌, ◌<◌, List, [], ◌∷◌, ◌++◌, Some, length, take, map, get_or, refl, sym, ap, ◌∙◌, append_assoc}
use Rattle.std.specs.Prelude.{ℤ, Option, fold, if◌then◌else◌}
use Rattle.std.proofs.lemmas.List.{append-nil, map-append, take_more}
use Rattle.record_codec.specs.declared.event.Event.{Event}
use Rattle.watch_table.specs.declared.watch.Watch.{Watch}
use Rattle.watch_table.specs.Watching.{Watching, removed, watch_of}
use Rattle.event_rules.specs.declared.notice.Notice.{Notice}
use Rattle.event_rules.specs.declared.staged.StagedEvent.{StagedEvent}
use Rattle.event_rules.specs.Raised.{raised_at, ended, ended_by, ends_watch, event_told, ignored, left}
use Rattle.event_rules.specs.Raised.{told_number, events_of, wds_ended, watches_after}
use Rattle.event_rules.proofs.Removals.{raised}
use Rattle.event_rules.specs.Staging.{staged_event}

pub events_of-push : (w : Watching) (ns : List Notice) (n : Notice) → events_of w (ns ++ n ∷ []) ≡ events_of w ns ++ raised (watches_after w ns) n
events_of-push w [] n = append-nil (raised w n)
events_of-push w (m ∷ ms) n =
    ap (λ es. raised w m ++ es) (events_of-push (left w m) ms n)
    ∙ sym (append_assoc (raised w m) (events_of (left w m) ms) (raised (watches_after (left w m) ms) n))

pub watches_after-push : (w : Watching) (ns : List Notice) (n : Notice) → watches_after w (ns ++ n ∷ []) ≡ left (watches_after w ns) n
watches_after-push w [] n = refl
watches_after-push w (m ∷ ms) n = watches_after-push (left w m) ms n

pub wds_ended-push : (w : Watching) (ns : List Notice) (n : Notice) → wds_ended w (ns ++ n ∷ []) ≡ wds_ended w ns ++ ended (watches_after w ns) n
wds_ended-push w [] n = append-nil (ended w n)
wds_ended-push w (m ∷ ms) n =
    ap (λ es. ended w m ++ es) (wds_ended-push (left w m) ms n)
    ∙ sym (append_assoc (ended w m) (wds_ended (left w m) ms) (ended (watches_after (left w m) ms) n))

-- the step of a loop over notices, which knows the watches that are left by the descriptors of those that ended
module _ (w : Watching) (left_by_removals : (ns : List Notice) → fold removed w (wds_ended w ns) ≡ watches_after w ns)
    (ns : List Notice) (i : ℕ) (d n : Notice) (wds : List ℤ) (within : i < length ns) (at : get_or ns i d ≡ n) (was : wds ≡ wds_ended w (take i ns)) where
  there : fold removed w wds ≡ watches_after w (take i ns)
  there = ap (fold removed w) was ∙ left_by_removals (take i ns)

  more : take (i + 1) ns ≡ take i ns ++ n ∷ []
  more = take_more ns i d within ∙ ap (λ m. take i ns ++ m ∷ []) at

  pub events_more : (events new : List Event) → events ≡ events_of w (take i ns) → new ≡ events ++ raised (fold removed w wds) n
      → new ≡ events_of w (take (i + 1) ns)
  events_more events new so_far is =
      is ∙ (λ j. so_far j ++ raised (there j) n) ∙ sym (ap (events_of w) more ∙ events_of-push w (take i ns) n)

  pub wds_more : (new : List ℤ) → new ≡ wds ++ ended (fold removed w wds) n → new ≡ wds_ended w (take (i + 1) ns)
  wds_more new is =
      is ∙ (λ j. was j ++ ended (there j) n) ∙ sym (ap (wds_ended w) more ∙ wds_ended-push w (take i ns) n)

-- what a notice raises, and the watch that it ends, by the watch of its file
pub raised_with : (w : Watching) (n : Notice) (o : Option Watch) → o ≡ watch_of w (told_number n) → raised_at n o ≡ raised w n
raised_with w n o is = ap (raised_at n) is

pub ended_with : (w : Watching) (n : Notice) (o : Option Watch) → o ≡ watch_of w (told_number n) → ended_by n o ≡ ended w n
unfolding ended
ended_with w n o is = ap (ended_by n) is

-- the events of a notice that ends the watch
pub heard_ended : (id : ℕ) (n : Notice) (watch : Watch) (was told new : List StagedEvent) → ends_watch n watch ≡ true
    → told ≡ was ++ map (staged_event id) (event_told n watch) → new ≡ told ++ staged_event id (ignored watch.wd) ∷ []
    → new ≡ was ++ map (staged_event id) (raised_at n (Some watch))
heard_ended id n watch was told new ends so_far is =
    is ∙ ap (λ hs. hs ++ staged_event id (ignored watch.wd) ∷ []) so_far
    ∙ append_assoc was (map (staged_event id) (event_told n watch)) (staged_event id (ignored watch.wd) ∷ [])
    ∙ ap (λ hs. was ++ hs) (sym (map-append (staged_event id) (event_told n watch) (ignored watch.wd ∷ []))
    ∙ ap (λ b. map (staged_event id) (event_told n watch ++ (if b then ignored watch.wd ∷ [] else []))) (sym ends))
