use Rattle.std.proofs.Common.{◌≡◌, ◌+◌, ◌<◌, List, length, get_or, ap, ◌∙◌, subst, arith}
use Rattle.tree_core.specs.declared.reply.Entry.{Entry}
use Rattle.tree_core.specs.Tree.{after}
use Rattle.event_sinks.specs.Audited.{outcomes}
use Rattle.event_sinks.specs.Tracks.{HandsOn, HandsOver, track_at}
use Rattle.event_sinks.proofs.Passing.{IsPassed, passed_more, passed_none}
use Rattle.event_sinks.proofs.served.hand_all.Goals as goal

pub loop-at-init : goal.loop-at-init
loop-at-init g c = (
  c.args.book.now.state.start,
  subst
      (λ p.
      IsPassed c.args.book.now (outcomes c.args.ended.now) c.args.book.now.state.start p
      c.args.book.now.state.entries (track_at c.args.tracks.now))
      (omega arith)
      (passed_none c.args.book.now (outcomes c.args.ended.now) (track_at c.args.tracks.now) c.law.ensures.lawful c.law.ensures.events c.requires),
)

pub loop-at-preserved : goal.loop-at-preserved
loop-at-preserved g c =
    let t = c.loop-at.invariant.0 in
    let e = c.index-journal-at.result in
    let b = c.args.book.now in
    let cut : c.snapshot.result.now.place ≡ b.state.place = c.snapshot.ensures.last_place in
    let same : c.journal-journal.result.now ≡ b.state.entries = c.journal-journal.ensures in
    let within : c.loop-at.at < length b.state.entries = subst (λ (es : List Entry). c.loop-at.at < length es) same (omega arith) in
    let is : e ≡ get_or b.state.entries c.loop-at.at e = c.index-journal-at.is ∙ ap (λ (es : List Entry). get_or es c.loop-at.at e) same in (
      after t e.call,
      passed_more c.batches_are_answered.ensures b (outcomes c.args.ended.now) t (b.state.place + c.loop-at.at) e
          (track_at c.loop-at.tracks) (track_at c.hand_entry.new.tracks) b.state.entries c.loop-at.at
          (b.state.place + (c.loop-at.at + 1)) within is (omega arith) c.loop-at.invariant.1
          (λ o over.
          subst (λ k. HandsOn k (outcomes c.args.ended.now) o c.loop-at.tracks c.hand_entry.new.tracks) cut
          (c.hand_entry.ensures o (subst (λ p. HandsOver e p o) (omega arith) over))),
    )
