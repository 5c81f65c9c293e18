-- One notice more, for the watches that the ones before it left.
use Rattle.std.proofs.Common.{◌≡◌, ◌⊎◌, ℕ, true, false, ◌+◌, ◌<◌, List, [], ◌∷◌, ◌++◌, Option, Some, None, Bool, inl, inr, length, take, get_or}
use Rattle.std.proofs.Common.{if◌then◌else◌, eqb, cond, map, refl, sym, ap, ◌∙◌}
use Rattle.std.specs.Prelude.{ℤ, fold}
use Rattle.std.proofs.lemmas.List.{take_more}
use Rattle.std.proofs.lemmas.Bool.{eqb-true}
use Rattle.record_codec.specs.declared.event.Event.{Event}
use Rattle.watch_table.specs.declared.watch.Watch.{Watch}
use Rattle.watch_table.specs.Watching.{IsSound, Watching, dropped, removed, watch_of}
use Rattle.event_rules.specs.declared.notice.Notice.{Notice}
use Rattle.event_rules.specs.declared.staged.StagedEnd.{StagedEnd}
use Rattle.event_rules.specs.Raised.{ended, ended_by, ends_watch, events_of, left, raised_at, told_number, watches_after, wds_ended}
use Rattle.event_rules.proofs.Removals.{left_by}
use Rattle.event_rules.specs.Staging.{left_before, staged_end}
use Rattle.event_rules.proofs.Earlier.{left-before}
use Rattle.event_rules.proofs.Stages.{ended_with, events_of-push, raised_with, wds_ended-push}
use Rattle.instance_table.specs.declared.instance.Instance.{Instance}
use Rattle.instance_table.specs.Instances.{Instances, instance_of}
use Rattle.instance_table.specs.Staging.{wds_to}
use Rattle.instance_table.specs.Watchers.{watch_at}
use Rattle.instance_table.proofs.Staged.{to-append}

-- what one more notice raises and ends
module _ (w : Watching) (ns : List Notice) (k : ℕ) (d n : Notice) (within : k < length ns) (at : get_or ns k d ≡ n) where
  more : take (k + 1) ns ≡ take k ns ++ n ∷ []
  more = take_more ns k d within ∙ ap (λ m. take k ns ++ m ∷ []) at

  here : left_before (take k ns) (told_number n) (watch_of w (told_number n)) ≡ watch_of (watches_after w (take k ns)) (told_number n)
  here = sym (left-before (told_number n) w (take k ns))

  pub events-more : (before new : List Event) → before ≡ events_of w (take k ns)
      → new ≡ before ++ raised_at n (left_before (take k ns) (told_number n) (watch_of w (told_number n))) → new ≡ events_of w (take (k + 1) ns)
  events-more before new so_far is =
      is ∙ (λ j. so_far j ++ raised_with (watches_after w (take k ns)) n (left_before (take k ns) (told_number n) (watch_of w (told_number n))) here j)
      ∙ sym (ap (events_of w) more ∙ events_of-push w (take k ns) n)

  pub wds-more : (before new : List ℤ) → before ≡ wds_ended w (take k ns)
      → new ≡ before ++ ended_by n (left_before (take k ns) (told_number n) (watch_of w (told_number n))) → new ≡ wds_ended w (take (k + 1) ns)
  wds-more before new so_far is =
      is ∙ (λ j. so_far j ++ ended_with (watches_after w (take k ns)) n (left_before (take k ns) (told_number n) (watch_of w (told_number n))) here j)
      ∙ sym (ap (wds_ended w) more ∙ wds_ended-push w (take k ns) n)

-- ---- where no watch ends, all are left

no-element : {A : Type 0} {x : A} {xs : List A} → x ∷ xs ≡ [] → ⊥
no-element h = cc

both-empty : {A : Type 0} (xs ys : List A) → xs ++ ys ≡ [] → (xs ≡ []) × (ys ≡ [])
both-empty [] ys h = (refl, h)
both-empty (x ∷ xs) ys h = absurd (no-element h)

left-all : (w : Watching) (n : Notice) → ended w n ≡ [] → left w n ≡ w
unfolding ended left
left-all w n h = by (watch_of w (told_number n)) h
  where
    by-test : (wd : ℤ) (b : Bool) → (if b then wd ∷ [] else []) ≡ [] → (if b then dropped w (told_number n) else w) ≡ w
    by-test wd true h = absurd (no-element h)
    by-test wd false h = refl

    by : (o : Option Watch) → ended_by n o ≡ [] → left_by w n o ≡ w
    by None h = refl
    by (Some watch) h = by-test watch.wd (ends_watch n watch) h

none-ended : (w : Watching) (ns : List Notice) → wds_ended w ns ≡ [] → watches_after w ns ≡ w
none-ended w [] h = refl
none-ended w (n ∷ ns) h =
    let empty = both-empty (ended w n) (wds_ended (left w n) ns) h in
    none-ended (left w n) ns empty.1 ∙ left-all w n empty.0

module _ (m : Instances) (ns : List Notice) (number q : ℕ) (drops : List StagedEnd)
    (so_far : (i : Instance) → instance_of m q ≡ Some i → wds_to q drops ≡ wds_ended i.watches ns) (none : drops ≡ []) where
  left-of : (o : Option Instance) → instance_of m q ≡ o → left_before ns number (watch_at number o) ≡ watch_at number o
  left-of None e = refl
  left-of (Some i) e =
      sym (left-before number i.watches ns)
      ∙ ap (λ w. watch_of w number) (none-ended i.watches ns (sym (so_far i e) ∙ ap (wds_to q) none))

  pub all-left : (o : Option Watch) → o ≡ watch_at number (instance_of m q) → left_before ns number o ≡ o
  all-left o is = ap (left_before ns number) is ∙ left-of (instance_of m q) refl ∙ sym is

-- ---- the watches of an instance of which one ends are sound

pub sound-more : (q : ℕ) (i : Instance) (ds : List StagedEnd) (k : ℕ) (e d : StagedEnd) → k < length ds → get_or ds k e ≡ d
    → (wds_to q (take k ds) ≡ []) ⊎ IsSound i.watches → (q ≡ d.id → IsSound i.watches) → (wds_to q (take (k + 1) ds) ≡ []) ⊎ IsSound i.watches
sound-more q i ds k e d within at (inr sound) this = inr sound
sound-more q i ds k e d within at (inl none) this =
    elim (eqb q d.id) as (λ b. eqb q d.id ≡ b → (wds_to q (take (k + 1) ds) ≡ []) ⊎ IsSound i.watches) [
      | true ↦ λ t. inr (this (eqb-true q d.id t))
      | false ↦ λ t. inl (
          ap (wds_to q) (take_more ds k e within ∙ ap (λ x. take k ds ++ x ∷ []) at)
          ∙ to-append (λ (x : StagedEnd). x.id) (λ (x : StagedEnd). x.wd) staged_end (λ id y. refl) (λ id y. refl) q (take k ds) (d ∷ [])
          ∙ ap (λ xs. xs ++ wds_to q (d ∷ [])) none
          ∙ ap (λ b. map (λ (x : StagedEnd). x.wd) (cond b (d ∷ []) [])) t)
    ] refl

-- so that the removals of those that end leave the others
pub ends-left : (w : Watching) (ns : List Notice) (wds : List ℤ) → wds ≡ wds_ended w ns → (wds ≡ []) ⊎ IsSound w
    → (IsSound w → fold removed w (wds_ended w ns) ≡ watches_after w ns) → fold removed w wds ≡ watches_after w ns
ends-left w ns wds is (inl none) law = ap (fold removed w) none ∙ sym (none-ended w ns (sym is ∙ none))
ends-left w ns wds is (inr sound) law = ap (fold removed w) is ∙ law sound
