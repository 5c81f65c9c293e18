use Rattle.std.proofs.Common.{ℕ, List, subst}
use Rattle.std.specs.Prelude.{IfOk, MatchOption}
use Rattle.tree_core.specs.declared.reply.Entry.{Entry}
use Rattle.event_sinks.specs.Audited.{AreKept, IsStray}
use Rattle.event_sinks.proofs.strays.first_stray.Goals as goal

pub returns : goal.returns
returns c =
    let logs = c.args.logs.now in
    subst
    (λ (p : ℕ × List Entry).
    IfOk c.stray_of.result (λ o. MatchOption o (AreKept p.0 p.1 logs) (λ n. IsStray p.0 p.1 logs n)))
    (λ i. (c.snapshot.ensures.last_place i, c.journal.ensures i)) c.stray_of.ensures
