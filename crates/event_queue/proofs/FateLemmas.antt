-- Nothing is lost unsaid, and a queue keeps its bounds.
use Rattle.std.proofs.Common.{◌≡◌, ◌≢◌, ℕ, zero, suc, ◌<◌, ◌≤◌, Bool, true, false, List, [], ◌∷◌, length, drop, refl}
use Rattle.std.proofs.Common.{sym, ap, subst, arith, length-append, ⊎_elim}
use Rattle.std.specs.Prelude.{Contains}
use Rattle.std.proofs.lemmas.Bool.{ltb-true, ltb-false, cases_Bool, cases_lt}
use Rattle.std.proofs.lemmas.List.{length-drop}
use Rattle.std.proofs.lemmas.Option.{slice_get_within, get_or_from_slice_get}
use Rattle.record_codec.specs.declared.event.Event.{Event}
use Rattle.event_queue.specs.declared.offered.Offered.{Offered}
use Rattle.event_queue.specs.declared.offered.Offered.TheVariants.{Kept, Merged, Marked, Lost}
use Rattle.event_queue.specs.Backlogs.{Backlog, is_mark, marks, has_mark, is_repeated, offered, overflow_mark, after_offer}
use Rattle.event_queue.specs.Fates.{HasFate, IsBounded, KeepsBounds}
use Rattle.event_queue.proofs.EventLemmas.{is_mark-Decides}
use Rattle.event_queue.proofs.OfferLemmas.{marks-take_mark, marks-take_other, marks-push_mark, marks-push_other}
use Rattle.event_queue.proofs.OfferLemmas.{is_mark-mark, offered_merged, offered_kept, offered_lost, offered_marked}
use Rattle.event_queue.proofs.OfferLemmas.{after_merged, after_kept, after_lost, after_marked}
use Rattle.event_queue.proofs.HistoryLemmas.{is_repeated-Decides, place_of_mark}

-- the four cases of an offer, with what each of them rests on
data Case (b : Backlog) (e : Event) (answer : Offered) : Type 0 where
  merges : is_repeated b.waiting e ≡ true → answer ≡ Merged → Case b e answer
  keeps : is_repeated b.waiting e ≡ false → length b.waiting < b.limit → answer ≡ Kept → Case b e answer
  loses : is_repeated b.waiting e ≡ false → b.limit ≤ length b.waiting → has_mark b.waiting ≡ true → answer ≡ Lost → Case b e answer
  leaves_mark : is_repeated b.waiting e ≡ false → b.limit ≤ length b.waiting → has_mark b.waiting ≡ false → answer ≡ Marked → Case b e answer

case_of : (b : Backlog) (e : Event) → Case b e (offered b.limit b.waiting e)
case_of b e = by_repeat (is_repeated b.waiting e) refl where
  by_mark : (m : Bool) → has_mark b.waiting ≡ m → is_repeated b.waiting e ≡ false → b.limit ≤ length b.waiting → Case b e (offered b.limit b.waiting e)
  by_mark true m p l = loses p l m (offered_lost b.limit b.waiting e p l m)
  by_mark false m p l = leaves_mark p l m (offered_marked b.limit b.waiting e p l m)

  by_repeat : (r : Bool) → is_repeated b.waiting e ≡ r → Case b e (offered b.limit b.waiting e)
  by_repeat true p = merges p (offered_merged b.limit b.waiting e p)
  by_repeat false p =
      ⊎_elim (λ (l : length b.waiting < b.limit). keeps p l (offered_kept b.limit b.waiting e p l))
      (λ (l : b.limit ≤ length b.waiting). by_mark (has_mark b.waiting) refl p l)
      (cases_lt (length b.waiting) b.limit)

waiting_mark : (waiting : List Event) → has_mark waiting ≡ true → Contains waiting overflow_mark
waiting_mark waiting p =
    let at = place_of_mark waiting (ltb-true _ _ p) in (
      at.0,
      slice_get_within waiting at.0 overflow_mark at.1,
      get_or_from_slice_get waiting at.0 overflow_mark overflow_mark at.1,
    )

fate_by : (b : Backlog) (e : Event) (answer : Offered) → Case b e answer → HasFate b e answer
fate_by b e answer (merges p q) =
    record {
      kept = λ r. cc;
      merged = λ r. ((is_repeated-Decides b.waiting e).0 p, after_merged b e p);
      marked = λ r. absurd (cc);
      lost = λ r. absurd (cc);
    }
fate_by b e answer (keeps p l q) =
    record {
      kept = λ r. ap (λ (x : Backlog). x.waiting) (after_kept b e p l);
      merged = λ r. absurd (cc);
      marked = λ r. absurd (cc);
      lost = λ r. absurd (cc);
    }
fate_by b e answer (loses p l m q) =
    record {
      kept = λ r. cc;
      merged = λ r. absurd (cc);
      marked = λ r. absurd (cc);
      lost = λ r. (waiting_mark b.waiting m, after_lost b e p l m);
    }
fate_by b e answer (leaves_mark p l m q) = record {
  kept = λ r. cc;
  merged = λ r. absurd (cc);
  lost = λ r. absurd (cc);
  marked = λ r. ((let n : marks b.waiting ≤ 0 = ltb-false _ _ m in omega arith), ap (λ (x : Backlog). x.waiting) (after_marked b e p l m));
}

pub has_fate : (b : Backlog) (e : Event) → HasFate b e (offered b.limit b.waiting e)
has_fate b e = fate_by b e _ (case_of b e)

no_mark : (e : Event) → e ≢ overflow_mark → is_mark e ≡ false
no_mark e n = ⊎_elim (λ (p : is_mark e ≡ true). absurd (n ((is_mark-Decides e).0 p))) (λ (p : is_mark e ≡ false). p) (cases_Bool (is_mark e))

bounded_by : (b : Backlog) (e : Event) (answer : Offered) → e ≢ overflow_mark → IsBounded b → Case b e answer → IsBounded (after_offer b e)
bounded_by b e answer n o (merges p q) = subst IsBounded (sym (after_merged b e p)) o
bounded_by b e answer n o (keeps p l q) = subst IsBounded (sym (after_kept b e p l)) record {
  room = omega (arith, length-append b.waiting (e ∷ []));
  one_mark = omega (arith, o.one_mark, marks-push_other b.waiting e (no_mark e n));
  beyond = λ f. absurd (omega (arith, length-append b.waiting (e ∷ [])));
}
bounded_by b e answer n o (loses p l m q) = subst IsBounded (sym (after_lost b e p l m)) o
bounded_by b e answer n o (leaves_mark p l m q) =
    let none : marks b.waiting ≤ 0 = ltb-false _ _ m in
    let full : length b.waiting ≤ b.limit =
    ⊎_elim (λ (f : b.limit < length b.waiting). absurd (let g : 0 < marks b.waiting = o.beyond f in omega arith))
    (λ (f : length b.waiting ≤ b.limit). f) (cases_lt b.limit (length b.waiting)) in
    subst IsBounded (sym (after_marked b e p l m)) record {
      room = omega (arith, length-append b.waiting (overflow_mark ∷ []));
      one_mark = omega (arith, marks-push_mark b.waiting overflow_mark is_mark-mark);
      beyond = λ f. omega (arith, marks-push_mark b.waiting overflow_mark is_mark-mark);
    }

-- fewer marks wait behind the first k records
fewer_marks : (k : ℕ) (waiting : List Event) → marks (drop k waiting) ≤ marks waiting
fewer_marks zero waiting = omega arith
fewer_marks (suc k) [] = omega arith
fewer_marks (suc k) (x ∷ xs) = by (is_mark x) refl (fewer_marks k xs) where
  by : (m : Bool) → is_mark x ≡ m → marks (drop k xs) ≤ marks xs → marks (drop k xs) ≤ marks (x ∷ xs)
  by true q h = let m = marks-take_mark (x ∷ xs) x refl q in omega arith
  by false q h = let m = marks-take_other (x ∷ xs) x refl q in omega arith

bounded_read : (b : Backlog) (k : ℕ) → IsBounded b → IsBounded (record b { waiting = drop k b.waiting })
bounded_read b zero o = o
bounded_read b (suc k) o = record {
  room = omega (arith, o.room, length-drop (suc k) b.waiting);
  one_mark = omega (arith, o.one_mark, fewer_marks (suc k) b.waiting);
  beyond = λ f. absurd (omega (arith, o.room, length-drop (suc k) b.waiting));
}

pub keeps_bounds : (b : Backlog) → KeepsBounds b
keeps_bounds b = record {
  begins = record { room = omega arith; one_mark = omega arith; beyond = λ f. absurd (omega arith) };
  offers = λ e n o. bounded_by b e _ n o (case_of b e);
  reads = λ k o. bounded_read b k o;
}
