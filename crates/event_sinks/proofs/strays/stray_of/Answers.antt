use Rattle.std.proofs.Common.{◌≡◌, ◌∙◌, ap, subst, length, take, List, Bool}
use Rattle.event_sinks.specs.Audited.{places}
use Rattle.event_sinks.specs.Marked.{marked, AreNext}
use Rattle.event_sinks.proofs.Marks.{length-marked, written_over}
use Rattle.event_sinks.proofs.KeptCalls.{kept_upto, marks_of, marks_upto, stray_at}
use Rattle.event_sinks.proofs.strays.stray_of.Goals as goal

pub returns-then-not-is_clean : goal.returns-then-not-is_clean
returns-then-not-is_clean c =
    let journal = c.args.journal.now in
    let log = c.log-item.result in
    let marks = c.deref_mut.ensures.value ∙ c.loop-log.invariant.marks in
    let stray = subst (λ (s : List Bool). AreNext c.args.cut journal s log.number 0 log.kept → ⊥) marks c.if-not-is_clean.ensures.stray in
    stray_at c.args.cut journal c.args.logs.now c.loop-log.log-index log c.loop-log-test.true c.log-item.is c.loop-log.invariant.kept stray

pub loop-log-preserved : goal.loop-log-preserved
loop-log-preserved c =
    let journal = c.args.journal.now in
    let logs = c.args.logs.now in
    let i = c.loop-log.log-index in
    let log = c.log-item.result in
    let old = c.deref_mut.result.now in
    let new = c.is_clean.new.seen in
    let marks : old ≡ marks_of c.args.cut journal (take i logs) = c.deref_mut.ensures.value ∙ c.loop-log.invariant.marks in
    let next = subst (λ (s : List Bool). AreNext c.args.cut journal s log.number 0 log.kept) marks c.if-not-is_clean.ensures.clean in
    let set = c.if-not-is_clean.ensures.marks in
    let len : length new ≡ length c.loop-log.seen.items = ap length set ∙ (length-marked old (places log) ∙ ap length c.deref_mut.ensures.value) in
    record {
      kept = kept_upto c.args.cut journal logs i log c.loop-log-test.true c.log-item.is c.loop-log.invariant.kept next;
      marks =
          written_over new c.loop-log.seen.items c.loop-log.seen.len c.loop-log.seen.ok.0 len
          ∙ (set
          ∙ (ap (λ (s : List Bool). marked s (places log)) marks
          ∙ marks_upto c.args.cut journal logs i log c.loop-log-test.true c.log-item.is));
    }
