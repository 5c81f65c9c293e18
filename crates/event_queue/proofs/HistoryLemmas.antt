-- A queue follows its history.
use Rattle.std.proofs.Common.{◌≡◌, ℕ, zero, suc, ◌+◌, ◌-◌, ◌<◌, ◌≤◌, Bool, true, false, List, [], ◌∷◌, ◌++◌, length}
use Rattle.std.proofs.Common.{take, drop, Option, Some, None, refl, sym, ap, subst, ◌∙◌, arith, append-nil}
use Rattle.std.proofs.Common.{length-append, ⊎_elim}
use Rattle.std.specs.Prelude.{slice_get}
use Rattle.std.specs.Bool.{Decides}
use Rattle.std.specs.Option.{option_map_or}
use Rattle.std.proofs.lemmas.Bool.{lt-ltb, ltb-true, cases_lt}
use Rattle.std.proofs.lemmas.List.{length-drop, drop-append-le, drop-drop, take-append-drop}
use Rattle.std.proofs.lemmas.Option.{slice_get_within, same_Some}
use Rattle.record_codec.specs.declared.event.Event.{Event}
use Rattle.record_codec.specs.Equality.{event_eq}
use Rattle.event_queue.specs.declared.offered.Offered.{Offered}
use Rattle.event_queue.specs.Backlogs.{Backlog, is_mark, marks, has_mark, is_repeated, offered, joining, overflow_mark}
use Rattle.event_queue.specs.Histories.{History, Holds, Repeats, IsFull, IsMarked, Befalls, with_read, with_joined, FollowsHistory}
use Rattle.event_queue.proofs.EventLemmas.{event_eq-Decides, is_mark-Decides}
use Rattle.event_queue.proofs.OfferLemmas.{marks-take_mark, marks-take_other, is_mark-mark, offered_merged, offered_kept, offered_lost, offered_marked}

pub slice_get-drop : {X : Type 0} (n : ℕ) (xs : List X) (i : ℕ) → slice_get (drop n xs) i ≡ slice_get xs (n + i)
slice_get-drop zero xs i = ap (slice_get xs) (omega arith)
slice_get-drop (suc n) [] i = refl
slice_get-drop (suc n) (x ∷ xs) i = slice_get-drop n xs i ∙ ap (slice_get (x ∷ xs)) k where
  k : suc (n + i) ≡ suc n + i
  k = omega arith

-- an event repeats the last one that waits, exactly where it is that one
last_is : (o : Option Event) (e : Event) → Decides (option_map_or (λ last. event_eq last e) o false) (o ≡ Some e)
last_is None e = (λ p. cc, λ p. cc)
last_is (Some x) e = (λ p. ap Some ((event_eq-Decides x e).0 p), λ p. (event_eq-Decides x e).1 (same_Some x e p))

pub is_repeated-Decides : (waiting : List Event) (e : Event) → Decides (is_repeated waiting e) (slice_get waiting (length waiting - 1) ≡ Some e)
unfolding is_repeated
is_repeated-Decides waiting e = last_is (slice_get waiting (length waiting - 1)) e

-- a mark waits exactly if one of the records is a mark
pub mark_at : (waiting : List Event) (i : ℕ) → slice_get waiting i ≡ Some overflow_mark → 0 < marks waiting
mark_at [] i p = cc
mark_at (x ∷ xs) zero p = let m = marks-take_mark (x ∷ xs) overflow_mark p is_mark-mark in omega arith
mark_at (x ∷ xs) (suc i) p = later (is_mark x) refl (mark_at xs i p) where
  later : (b : Bool) → is_mark x ≡ b → 0 < marks xs → 0 < marks (x ∷ xs)
  later true q h = let m = marks-take_mark (x ∷ xs) x refl q in omega arith
  later false q h = let m = marks-take_other (x ∷ xs) x refl q in omega arith

pub place_of_mark : (waiting : List Event) → 0 < marks waiting → (i : ℕ) × (slice_get waiting i ≡ Some overflow_mark)
place_of_mark [] h = absurd (omega arith)
place_of_mark (x ∷ xs) h = at (is_mark x) refl (place_of_mark xs) where
  at : (b : Bool) → is_mark x ≡ b → (0 < marks xs → (i : ℕ) × (slice_get xs i ≡ Some overflow_mark)) → (i : ℕ) × (slice_get (x ∷ xs) i ≡ Some overflow_mark)
  at true q later = (0, ap Some ((is_mark-Decides x).0 q))
  at false q later = let m = marks-take_other (x ∷ xs) x refl q in let p : 0 < marks xs = omega arith in (suc (later p).0, (later p).1)

when_not : {P : Type 0} (r : Bool) → Decides r P → ¬ P → r ≡ false
when_not true d n = absurd (n (d.0 refl))
when_not false d n = refl

below_unless : (a b : ℕ) → ¬ (a ≤ b) → b < a
below_unless a b n = ⊎_elim (λ (l : b < a). l) (λ (l : a ≤ b). absurd (n l)) (cases_lt b a)

-- the last record that waits is the last one that joined
last_of : (h : History) → h.read < length h.joined
    → slice_get (drop h.read h.joined) (length (drop h.read h.joined) - 1) ≡ slice_get h.joined (length h.joined - 1)
last_of h l = slice_get-drop h.read h.joined _ ∙ ap (slice_get h.joined) at where
  at : h.read + (length (drop h.read h.joined) - 1) ≡ length h.joined - 1
  at = omega (arith, length-drop h.read h.joined)

repeats_to : (h : History) (e : Event) → is_repeated (drop h.read h.joined) e ≡ true → Repeats h e
repeats_to h e p = (some, sym (last_of h some) ∙ last) where
  last : slice_get (drop h.read h.joined) (length (drop h.read h.joined) - 1) ≡ Some e
  last = (is_repeated-Decides (drop h.read h.joined) e).0 p

  some : h.read < length h.joined
  some = let l = slice_get_within (drop h.read h.joined) _ e last in omega (arith, length-drop h.read h.joined)

repeats : (h : History) (e : Event) → Decides (is_repeated (drop h.read h.joined) e) (Repeats h e)
repeats h e = (repeats_to h e, λ r. (is_repeated-Decides (drop h.read h.joined) e).1 (last_of h r.0 ∙ r.1))

marked_to : (h : History) → has_mark (drop h.read h.joined) ≡ true → IsMarked h
marked_to h p =
    let at = place_of_mark (drop h.read h.joined) (ltb-true _ _ p) in
    (h.read + at.0, omega arith, sym (slice_get-drop h.read h.joined at.0) ∙ at.1)

marked_from : (h : History) → IsMarked h → has_mark (drop h.read h.joined) ≡ true
marked_from h m =
    let k : h.read + (m.0 - h.read) ≡ m.0 = let l : h.read ≤ m.0 = m.1 in omega arith in
    lt-ltb _ _ (mark_at (drop h.read h.joined) (m.0 - h.read) (slice_get-drop h.read h.joined (m.0 - h.read) ∙ ap (slice_get h.joined) k ∙ m.2))

is_marked : (h : History) → Decides (has_mark (drop h.read h.joined)) (IsMarked h)
is_marked h = (marked_to h, marked_from h)

joined_none : (h : History) → with_joined h [] ≡ h
joined_none h = λ k. record h { joined = append-nil h.joined k }

-- the history by the answer
next_is : (h : History) (e : Event) (given answer : Offered) → given ≡ answer → with_joined h (joining given e) ≡ with_joined h (joining answer e)
next_is h e given answer p = ap (λ a. with_joined h (joining a e)) p

befalls_at : (limit : ℕ) (h : History) (e : Event)
    → (let answer = offered limit (drop h.read h.joined) e in
    Befalls limit h e answer (with_joined h (joining answer e)))
befalls_at limit h e = record {
  merged = λ r. let p = offered_merged limit waiting e ((repeats h e).1 r) in (p, next_is h e _ _ p ∙ joined_none h);
  kept =
      λ r f.
      let p =
      offered_kept limit waiting e (other r)
      (let l = below_unless _ _ f in omega (arith, length-drop h.read h.joined)) in
      (p, next_is h e _ _ p);
  marked = λ r f m. let p = offered_marked limit waiting e (other r) (full f) (when_not _ (is_marked h) m) in (p, next_is h e _ _ p);
  lost = λ r f m. let p = offered_lost limit waiting e (other r) (full f) ((is_marked h).1 m) in (p, next_is h e _ _ p ∙ joined_none h);
} where
  waiting : List Event
  waiting = drop h.read h.joined

  other : ¬ Repeats h e → is_repeated (drop h.read h.joined) e ≡ false
  other r = when_not _ (repeats h e) r

  full : IsFull limit h → limit ≤ length (drop h.read h.joined)
  full f = omega (arith, length-drop h.read h.joined)

holds_more : (h : History) (waiting records : List Event) → Holds h waiting → Holds (with_joined h records) (waiting ++ records)
holds_more h waiting records o = record {
  within = let l = o.within in omega (arith, length-append h.joined records);
  rest = drop-append-le h.read h.joined records o.within ∙ ap (λ xs. xs ++ records) o.rest;
}

holds_less : (h : History) (waiting : List Event) (k : ℕ) → Holds h waiting → k ≤ length waiting → Holds (with_read h k) (drop k waiting)
holds_less h waiting k o l = record {
  within = let w = o.within in omega (arith, length-drop h.read h.joined, ap length o.rest);
  rest = sym (drop-drop k h.read h.joined) ∙ ap (drop k) o.rest;
}

pub follows_history : (b : Backlog) (h : History) → Holds h b.waiting → FollowsHistory b h
follows_history b h o = record {
  befalls =
      λ e.
      subst
      (λ (w : List Event).
      let answer = offered b.limit w e in Befalls b.limit h e answer (with_joined h (joining answer e)))
      o.rest (befalls_at b.limit h e);
  offers = λ e. holds_more h b.waiting (joining (offered b.limit b.waiting e) e) o;
  takes = λ l. holds_less h b.waiting 1 o l;
  reads = λ k l. holds_less h b.waiting k o l;
  peeks = λ i. ap (λ w. slice_get w i) (sym o.rest) ∙ slice_get-drop h.read h.joined i;
  len = ap length (sym o.rest) ∙ length-drop h.read h.joined;
  order = ap (λ w. take h.read h.joined ++ w) (sym o.rest) ∙ take-append-drop h.read h.joined;
}
