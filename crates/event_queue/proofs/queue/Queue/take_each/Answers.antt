use Rattle.std.proofs.Common.{◌≡◌, ℕ, ◌+◌, suc, zero, List, [], ◌∷◌, drop, ap, ◌∙◌, refl, arith}
use Rattle.record_codec.specs.declared.event.Event.{Event}
use Rattle.event_queue.specs.Backlogs.{after_take}
use Rattle.event_queue.proofs.queue.Queue.take_each.Goals as goal

one-more : (k : ℕ) (es : List Event) → drop 1 (drop k es) ≡ drop (suc k) es
one-more zero es = refl
one-more (suc k) [] = refl
one-more (suc k) (e ∷ es) = one-more k es

pub loop-preserved : goal.loop-preserved
loop-preserved c =
    c.take.ensures.queue ∙ ap after_take c.loop.invariant
    ∙ ap (λ es. record c.args.self.now { waiting = es })
    (one-more c.loop.counter c.args.self.now.waiting ∙ ap (λ n. drop n c.args.self.now.waiting) (next c.loop.counter))
  where
    next : (n : ℕ) → suc n ≡ n + 1
    next n = omega arith
