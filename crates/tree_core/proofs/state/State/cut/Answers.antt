use Rattle.std.proofs.Common.{refl, ap, ◌∙◌, arith}
use Rattle.tree_core.specs.Journal.{cut_off}
use Rattle.tree_core.proofs.Keeping.{IsKept-cut, shown-of}
use Rattle.tree_core.proofs.state.State.cut.Goals as goal

pub invariant_of-self : goal.invariant_of-self
invariant_of-self c =
    let a = c.self.inside in
    (IsKept-cut c.trees_are_sound.ensures a (record { file_system = a.file_system; snapshot = c.in_ok-self-inside.field-0; journal = c.new.result })
    c.self.invariant refl c.new.ensures.items _ (omega arith)
    (shown-of c.self.invariant.stands c.in_ok-self-inside.ensures.ok) c.law.ensures).1

pub returns-clause-cut : goal.returns-clause-cut
returns-clause-cut c =
    let a = c.self.inside in
    (IsKept-cut c.trees_are_sound.ensures a (record { file_system = a.file_system; snapshot = c.in_ok-self-inside.field-0; journal = c.new.result })
    c.self.invariant refl c.new.ensures.items _ (omega arith)
    (shown-of c.self.invariant.stands c.in_ok-self-inside.ensures.ok) c.law.ensures).0
    ∙ ap cut_off c.self.view_is
