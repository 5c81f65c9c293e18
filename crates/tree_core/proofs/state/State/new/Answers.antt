use Rattle.tree_core.proofs.Keeping.{IsKept-new, shown-of}
use Rattle.tree_core.proofs.state.State.new.Goals as goal

pub invariant_of-result : goal.invariant_of-result
invariant_of-result c =
    (IsKept-new c.trees_are_sound.ensures c.args.limits
    (record { file_system = c.in_ok-file_system.file_system; snapshot = c.in_ok-snapshot.snapshot; journal = c.new-2.result })
    c.in_ok-file_system.ensures.ok c.in_ok-file_system.ensures.numbered c.new-2.ensures.items
    (shown-of c.in_ok-file_system.ensures.ok c.in_ok-snapshot.ensures.ok) c.law.ensures).1

pub returns-clause-ok : goal.returns-clause-ok
returns-clause-ok c =
    (IsKept-new c.trees_are_sound.ensures c.args.limits
    (record { file_system = c.in_ok-file_system.file_system; snapshot = c.in_ok-snapshot.snapshot; journal = c.new-2.result })
    c.in_ok-file_system.ensures.ok c.in_ok-file_system.ensures.numbered c.new-2.ensures.items
    (shown-of c.in_ok-file_system.ensures.ok c.in_ok-snapshot.ensures.ok) c.law.ensures).0
