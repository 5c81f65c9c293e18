use Rattle.std.proofs.Common.{ap, ◌∙◌, arith}
use Rattle.tree_core.specs.declared.state.State.TheInside.{Inside}
use Rattle.tree_core.specs.Journal.{cut_off}
use Rattle.tree_core.proofs.Keeping.{IsKept-cut, shown-of}
use Rattle.tree_core.proofs.state.State.fork.Goals as goal

pub invariant_of-result : goal.invariant_of-result
invariant_of-result c =
    let fork : Inside = record { file_system = c.in_ok-file_system.file_system; snapshot = c.in_ok-snapshot.snapshot; journal = c.new-journal.result } in
    (IsKept-cut c.trees_are_sound.ensures c.self.inside fork c.self.invariant c.in_ok-file_system.ensures.ok c.new-journal.ensures.items _ (omega arith)
    (shown-of (c.in_ok-file_system.ensures.ok ∙ c.self.invariant.stands) c.in_ok-snapshot.ensures.ok) c.law.ensures).1

pub returns-clause-ok : goal.returns-clause-ok
returns-clause-ok c =
    let fork : Inside = record { file_system = c.in_ok-file_system.file_system; snapshot = c.in_ok-snapshot.snapshot; journal = c.new-journal.result } in
    (IsKept-cut c.trees_are_sound.ensures c.self.inside fork c.self.invariant c.in_ok-file_system.ensures.ok c.new-journal.ensures.items _ (omega arith)
    (shown-of (c.in_ok-file_system.ensures.ok ∙ c.self.invariant.stands) c.in_ok-snapshot.ensures.ok) c.law.ensures).0
    ∙ ap cut_off c.self.view_is

pub returns-clause-past : goal.returns-clause-past
returns-clause-past c = (invariant_of-result c).past
