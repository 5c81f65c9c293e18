use Rattle.std.proofs.Common.{subst, sym}
use Rattle.event_sinks.specs.Audited.{outcomes}
use Rattle.event_sinks.proofs.Walking.{IsWalked, walked_all, walked_fault, walked_known, walked_none, walked_on}
use Rattle.event_sinks.proofs.served.first_fault.Goals as goal

pub loop-number-init : goal.loop-number-init
loop-number-init g c = λ b at known.
    let es = outcomes c.args.ended.now in
    let gives = c.into_iter-number-iterator.ensures.into_iter_gives in
    subst (IsWalked b es) (sym gives.0) (walked_none b es c.args.tracks.now gives.5 gives.6 known)

pub returns-in-Some-fault_of : goal.returns-in-Some-fault_of
returns-in-Some-fault_of g c = λ b at known.
    let es = outcomes c.args.ended.now in
    let n = c.in-Some.number.now in
    let t = c.in-Some.track.now in
    let h = subst (IsWalked b es) c.in-Some.ensures.steps (c.loop-number.invariant b at known) in
    walked_fault b es n t c.next.new.self h c.in-Some-fault_of.fault (c.in-Some-fault_of.ensures b at (walked_known b es n t c.next.new.self h))

pub loop-number-preserved : goal.loop-number-preserved
loop-number-preserved g c = λ b at known.
    let es = outcomes c.args.ended.now in
    let n = c.in-Some.number.now in
    let t = c.in-Some.track.now in
    let h = subst (IsWalked b es) c.in-Some.ensures.steps (c.loop-number.invariant b at known) in
    walked_on b es n t c.next.new.self h (c.in_default.ensures b at (walked_known b es n t c.next.new.self h))

pub returns : goal.returns
returns g c = λ b at known.
    let es = outcomes c.args.ended.now in
    walked_all b es (subst (IsWalked b es) c.in-None.ensures.steps.0 (c.loop-number.invariant b at known))
