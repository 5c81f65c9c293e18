use Rattle.std.proofs.Common.{◌≡◌, ◌≤◌, ◌+◌, ◌++◌, ℕ, suc, zero, List, [], ◌∷◌, Some, None, take, drop, slice_get, ap}
use Rattle.std.proofs.Common.{sym, ◌∙◌, refl, append_assoc, arith, rules}
use Rattle.record_codec.specs.declared.event.Event.{Event}
use Rattle.event_queue.specs.Backlogs.{after_take}
use Rattle.instance_table.proofs.instances.move_oldest.Goals as goal

next : (n : ℕ) → suc n ≡ n + 1
next n = omega arith

drop-next : (k : ℕ) (es : List Event) → drop 1 (drop k es) ≡ drop (suc k) es
drop-next zero es = refl
drop-next (suc k) [] = refl
drop-next (suc k) (e ∷ es) = drop-next k es

-- the record that comes next
take-next : (k : ℕ) (es : List Event) (e : Event) → slice_get (drop k es) 0 ≡ Some e → take (suc k) es ≡ take k es ++ e ∷ []
take-next zero [] e h = absurd (cc)
take-next zero (x ∷ es) e h = ap (λ y. y ∷ []) (search rules)
take-next (suc k) [] e h = absurd (cc)
take-next (suc k) (x ∷ es) e h = ap (λ ys. x ∷ ys) (take-next k es e h)

-- where none is left, no more are taken
drop-spent : (k n : ℕ) (es : List Event) → k ≤ n → slice_get (drop k es) 0 ≡ None → drop n es ≡ drop k es
drop-spent zero zero es le h = refl
drop-spent zero (suc n) [] le h = refl
drop-spent zero (suc n) (e ∷ es) le h = absurd (cc)
drop-spent (suc k) zero es le h = absurd (omega arith)
drop-spent (suc k) (suc n) [] le h = refl
drop-spent (suc k) (suc n) (e ∷ es) le h = drop-spent k n es (omega arith) h

take-spent : (k n : ℕ) (es : List Event) → k ≤ n → slice_get (drop k es) 0 ≡ None → take n es ≡ take k es
take-spent zero zero es le h = refl
take-spent zero (suc n) [] le h = refl
take-spent zero (suc n) (e ∷ es) le h = absurd (cc)
take-spent (suc k) zero es le h = absurd (omega arith)
take-spent (suc k) (suc n) [] le h = refl
take-spent (suc k) (suc n) (e ∷ es) le h = ap (λ ys. e ∷ ys) (take-spent k n es (omega arith) h)

pub returns-in_default-clause-queue : goal.returns-in_default-clause-queue
returns-in_default-clause-queue c =
    let waiting = c.args.queue.now.waiting in
    let k = c.loop.counter in
    let none : slice_get (drop k waiting) 0 ≡ None =
    ap (λ q. slice_get q.waiting 0) (sym c.loop.invariant.queue) ∙ sym c.take.ensures.record ∙ c.in_default.is in
    c.take.ensures.queue ∙ ap after_take c.loop.invariant.queue
    ∙ ap (λ es. record c.args.queue.now { waiting = es })
    (drop-next k waiting ∙ drop-spent k (suc k) waiting (omega arith) none
    ∙ sym (drop-spent k c.args.count waiting (omega (arith, c.loop-test.true)) none))

pub returns-in_default-clause-records : goal.returns-in_default-clause-records
returns-in_default-clause-records c =
    let waiting = c.args.queue.now.waiting in
    let k = c.loop.counter in
    let none : slice_get (drop k waiting) 0 ≡ None =
    ap (λ q. slice_get q.waiting 0) (sym c.loop.invariant.queue) ∙ sym c.take.ensures.record ∙ c.in_default.is in
    c.loop.invariant.records ∙ ap (λ es. c.args.records.now.items ++ es) (sym (take-spent k c.args.count waiting (omega (arith, c.loop-test.true)) none))

pub loop-preserved : goal.loop-preserved
loop-preserved c =
    let waiting = c.args.queue.now.waiting in
    let k = c.loop.counter in
    let there : slice_get (drop k waiting) 0 ≡ Some c.in-Some.event =
    ap (λ q. slice_get q.waiting 0) (sym c.loop.invariant.queue) ∙ sym c.take.ensures.record ∙ c.in-Some.is in
    record {
      queue =
          c.take.ensures.queue ∙ ap after_take c.loop.invariant.queue
          ∙ ap (λ es. record c.args.queue.now { waiting = es }) (drop-next k waiting ∙ ap (λ n. drop n waiting) (next k));
      records =
          c.push_reserved.ensures.items ∙ ap (λ es. es ++ c.in-Some.event ∷ []) c.loop.invariant.records
          ∙ append_assoc c.args.records.now.items (take k waiting) (c.in-Some.event ∷ [])
          ∙ ap (λ es. c.args.records.now.items ++ es) (sym (take-next k waiting c.in-Some.event there) ∙ ap (λ n. take n waiting) (next k));
      room =
          let len = c.push_reserved.ensures.len in
          let capacity = c.push_reserved.ensures.capacity in let room = c.loop.invariant.room in let test = c.loop-test.true in omega arith;
    }
