use Rattle.std.proofs.Common.{◌≡◌, Some, IsSome, refl, subst, sym, List, [], ◌∷◌}
use Rattle.shared_tree.specs.declared.pipe.Batch.{Batch}
use Rattle.event_sinks.specs.Audited.{outcomes}
use Rattle.event_sinks.specs.Tracks.{Follows, track_at}
use Rattle.event_sinks.proofs.Handing.{hands_none, hands_some}
use Rattle.event_sinks.proofs.served.hand.Goals as goal

pub returns-in-Some : goal.returns-in-Some
returns-in-Some g c = λ b s.
    let m = c.args.tracks.now in
    let t = c.in-Some.track.now in
    let p = c.after-track.result in
    let was : track_at m c.args.number ≡ Some t = sym c.in-Some.ensures.value in
    let new = record t { progress = p } in
    let put = (c.get_mut.follows.holds new).3 (subst (λ o. IsSome o) (sym was) refl) in
    hands_some c.args.cut (outcomes c.args.ended.now) b c.args.number s.instance_is m (c.get_mut.follows.lender new) t p
    was
    (subst (λ (bs : List Batch). Follows c.args.cut bs (b ∷ []) t.progress p) c.handed_at-handed.ensures
    (c.after-track.ensures b s))
    put

pub returns-in_default : goal.returns-in_default
returns-in_default g c = λ b s.
    hands_none c.args.cut (outcomes c.args.ended.now) b c.args.number s.instance_is c.args.tracks.now
    c.get_mut.follows.lender-at-none (sym c.in_default.ensures.value) c.get_mut.follows.holds-at-none
