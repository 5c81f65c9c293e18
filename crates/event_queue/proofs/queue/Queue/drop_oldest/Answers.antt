use Rattle.std.proofs.Common.{List, [], arith, drop, length, refl, rules, subst, suc, sym, zero, ℕ, ◌-◌, ◌∙◌, ◌∷◌, ◌≡◌}
use Rattle.std.proofs.lemmas.List.{length-drop}
use Rattle.record_codec.specs.declared.event.Event.{Event}
use Rattle.circular_buffer.specs.Buffer.{Buffer, buffer, keep_last}
use Rattle.event_queue.specs.Backlogs.{is_mark, marks}
use Rattle.event_queue.specs.Rings.{IsRing}
use Rattle.event_queue.specs.declared.queue.Queue.TheInside.{Inside}
use Rattle.event_queue.proofs.OfferLemmas.{marks-cons}
use Rattle.event_queue.proofs.queue.Queue.drop_oldest.Goals as goal

-- where no mark waits, none is among the later records
none-left : (k : ℕ) (es : List Event) → marks es ≡ 0 → marks (drop k es) ≡ 0
none-left zero es h = h
none-left (suc k) [] h = h
none-left (suc k) (e ∷ es) h = let split = marks-cons e es (is_mark e) refl in none-left k es (omega (arith, h, split))

kept-last : (q : Inside) (n : ℕ) → IsRing q → q.marks ≡ 0
    → IsRing (record { limit = q.limit; marks = q.marks; records = buffer (keep_last n q.records.items) q.records.capacity })
kept-last q n ring none =
    let es : List Event = q.records.items in
    let k : ℕ = length es - n in
    let fewer = length-drop k es in
    let counted = ring.marks in
    let within = ring.within in
    record {
      limit = ring.limit;
      capacity = ring.capacity;
      marks = none ∙ sym (none-left k es (sym counted ∙ none));
      within = omega (arith, fewer, within);
      room = λ h. ring.room (omega (arith, fewer, h));
    }

pub invariant_of-self-then-self-eq0 : goal.invariant_of-self-then-self-eq0
invariant_of-self-then-self-eq0 c =
    let q : Inside = c.self.inside in
    subst (λ (r : Buffer Event). IsRing (record { limit = q.limit; marks = q.marks; records = r })) (sym c.truncate_front.ensures)
    (kept-last q _ c.self.invariant c.if-self-eq0.true)

pub returns-then-self-eq0 : goal.returns-then-self-eq0
returns-then-self-eq0 c = search rules
