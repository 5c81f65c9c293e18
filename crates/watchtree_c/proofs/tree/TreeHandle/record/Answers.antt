use Rattle.std.proofs.Common.{Some, sym, ap, ◌∙◌}
use Rattle.watchtree_c.proofs.Recorded.{made, taken}
use Rattle.watchtree_c.proofs.tree.TreeHandle.record.Goals as goal

pub returns-in-Ok-clause-ok : goal.returns-in-Ok-clause-ok
returns-in-Ok-clause-ok c =
    taken c.args.self.now.held.state c.deref_mut.result.now c.args.call (c.in-Some.ensures.taken ∙ ap Some (sym c.deref_mut.ensures.value))
    c.record.new.state c.in-Ok.ensures.ok

pub returns-in-Err-clause-err : goal.returns-in-Err-clause-err
returns-in-Err-clause-err c =
    made c.args.self.now.held.state c.deref_mut.result.now c.args.call (c.in-Some.ensures.taken ∙ ap Some (sym c.deref_mut.ensures.value))
    c.record.new.state c.of.result.held.state _ c.in-Err.ensures.err c.of.ensures
