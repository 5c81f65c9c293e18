-- What becomes of an event, case by case, and how many marks wait then.
use Rattle.std.proofs.Common.{◌≡◌, ℕ, ◌+◌, ◌-◌, ◌<◌, ◌≤◌, Bool, true, false, cond, List, [], ◌∷◌, ◌++◌, length, drop}
use Rattle.std.proofs.Common.{refl, ap, ◌∙◌, arith, append-nil, length-append}
use Rattle.std.specs.Prelude.{nat_lt, slice_get, Some}
use Rattle.std.proofs.lemmas.Bool.{lt-ltb, le-ltb}
use Rattle.std.proofs.lemmas.List.Sums.{sum_by-cons, sum_by_push}
use Rattle.std.proofs.lemmas.Option.{same_Some}
use Rattle.record_codec.specs.declared.event.Event.{Event}
use Rattle.circular_buffer.specs.Buffer.{keep_last}
use Rattle.event_queue.specs.declared.offered.Offered.{Offered}
use Rattle.event_queue.specs.declared.offered.Offered.TheVariants.{Kept, Merged, Marked, Lost}
use Rattle.event_queue.specs.Backlogs.{Backlog, is_mark, marks, has_mark, is_repeated, offered, joining, overflow_mark, after_offer}
use Rattle.event_queue.proofs.EventLemmas.{is_mark-Decides}

-- a buffer that is not full keeps all
pub keep_last-room : {X : Type 0} (n : ℕ) (xs : List X) (x : X) → length xs < n → keep_last n (xs ++ x ∷ []) ≡ xs ++ x ∷ []
keep_last-room n xs x h = let k : length (xs ++ x ∷ []) - n ≡ 0 = omega (arith, length-append xs (x ∷ [])) in ap (λ i. drop i (xs ++ x ∷ [])) k

pub marks-push : (xs : List Event) (e : Event) (b : Bool) → is_mark e ≡ b → marks (xs ++ e ∷ []) ≡ marks xs + cond b 1 0
marks-push xs e b p = sum_by_push (λ x. cond (is_mark x) 1 0) xs e ∙ ap (λ t. marks xs + cond t 1 0) p

pub marks-cons : (e : Event) (xs : List Event) (b : Bool) → is_mark e ≡ b → marks (e ∷ xs) ≡ cond b 1 0 + marks xs
marks-cons e xs b p = sum_by-cons (λ x. cond (is_mark x) 1 0) e xs ∙ ap (λ t. cond t 1 0 + marks xs) p

pub is_mark-mark : is_mark overflow_mark ≡ true
is_mark-mark = (is_mark-Decides overflow_mark).1 refl

pub marks-take_mark : (xs : List Event) (e : Event) → slice_get xs 0 ≡ Some e → is_mark e ≡ true → marks xs ≡ 1 + marks (drop 1 xs)
marks-take_mark [] e p q = cc
marks-take_mark (x ∷ xs) e p q = marks-cons x xs true (ap is_mark (same_Some x e p) ∙ q)

pub marks-take_other : (xs : List Event) (e : Event) → slice_get xs 0 ≡ Some e → is_mark e ≡ false → marks xs ≡ marks (drop 1 xs)
marks-take_other [] e p q = cc
marks-take_other (x ∷ xs) e p q = marks-cons x xs false (ap is_mark (same_Some x e p) ∙ q) ∙ omega arith

pub marks-push_mark : (xs : List Event) (e : Event) → is_mark e ≡ true → marks (xs ++ e ∷ []) ≡ marks xs + 1
marks-push_mark xs e p = marks-push xs e true p

pub marks-push_other : (xs : List Event) (e : Event) → is_mark e ≡ false → marks (xs ++ e ∷ []) ≡ marks xs
marks-push_other xs e p = marks-push xs e false p ∙ omega arith

offered_at : (limit : ℕ) (waiting : List Event) (e : Event) (a b c : Bool) → is_repeated waiting e ≡ a
    → nat_lt (length waiting) limit ≡ b → has_mark waiting ≡ c
    → offered limit waiting e ≡ cond a Merged (cond b Kept (cond c Lost Marked))
unfolding offered
offered_at limit waiting e a b c p q r = λ k. cond (p k) Merged (cond (q k) Kept (cond (r k) Lost Marked))

pub offered_merged : (limit : ℕ) (waiting : List Event) (e : Event) → is_repeated waiting e ≡ true → offered limit waiting e ≡ Merged
offered_merged limit waiting e p = offered_at limit waiting e true _ _ p refl refl

pub offered_kept : (limit : ℕ) (waiting : List Event) (e : Event) → is_repeated waiting e ≡ false → length waiting < limit → offered limit waiting e ≡ Kept
offered_kept limit waiting e p h = offered_at limit waiting e false true _ p (lt-ltb _ _ h) refl

pub offered_lost : (limit : ℕ) (waiting : List Event) (e : Event) → is_repeated waiting e ≡ false
    → limit ≤ length waiting → has_mark waiting ≡ true → offered limit waiting e ≡ Lost
offered_lost limit waiting e p h m = offered_at limit waiting e false false true p (le-ltb _ _ h) m

pub offered_marked : (limit : ℕ) (waiting : List Event) (e : Event) → is_repeated waiting e ≡ false
    → limit ≤ length waiting → has_mark waiting ≡ false → offered limit waiting e ≡ Marked
offered_marked limit waiting e p h m = offered_at limit waiting e false false false p (le-ltb _ _ h) m

pub after_offer-waiting : (b : Backlog) (e : Event) (answer : Offered) → offered b.limit b.waiting e ≡ answer
    → after_offer b e ≡ record b { waiting = b.waiting ++ joining answer e }
after_offer-waiting b e answer p = λ k. record b { waiting = b.waiting ++ joining (p k) e }

after_offer-none : (b : Backlog) (e : Event) (answer : Offered) → offered b.limit b.waiting e ≡ answer → joining answer e ≡ [] → after_offer b e ≡ b
after_offer-none b e answer p q = after_offer-waiting b e answer p ∙ (λ k. record b { waiting = (ap (λ xs. b.waiting ++ xs) q ∙ append-nil b.waiting) k })

pub after_merged : (b : Backlog) (e : Event) → is_repeated b.waiting e ≡ true → after_offer b e ≡ b
after_merged b e p = after_offer-none b e Merged (offered_merged b.limit b.waiting e p) refl

pub after_kept : (b : Backlog) (e : Event) → is_repeated b.waiting e ≡ false → length b.waiting < b.limit
    → after_offer b e ≡ record b { waiting = b.waiting ++ e ∷ [] }
after_kept b e p h = after_offer-waiting b e Kept (offered_kept b.limit b.waiting e p h)

pub after_lost : (b : Backlog) (e : Event) → is_repeated b.waiting e ≡ false → b.limit ≤ length b.waiting → has_mark b.waiting ≡ true → after_offer b e ≡ b
after_lost b e p h m = after_offer-none b e Lost (offered_lost b.limit b.waiting e p h m) refl

pub after_marked : (b : Backlog) (e : Event) → is_repeated b.waiting e ≡ false → b.limit ≤ length b.waiting
    → has_mark b.waiting ≡ false → after_offer b e ≡ record b { waiting = b.waiting ++ overflow_mark ∷ [] }
after_marked b e p h m = after_offer-waiting b e Marked (offered_marked b.limit b.waiting e p h m)

pub ruleset offers = (offered_merged, offered_kept, offered_lost, offered_marked, after_merged, after_kept, after_lost, after_marked, is_mark-mark)

pub ruleset enqueues = (marks-push_mark, marks-push_other, keep_last-room)

pub ruleset takes = (marks-take_mark, marks-take_other)
