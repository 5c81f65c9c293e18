use Rattle.std.proofs.Common.{sym, ap, subst, ◌∙◌}
use Rattle.std.specs.Prelude.{Some, None}
use Rattle.shared_tree.proofs.Pushing.{pushed_by, delivered, pushed-length}
use Rattle.shared_tree.specs.Held.{IsReady, sents}
use Rattle.shared_tree.specs.Handed.{deliver}
use Rattle.shared_tree.specs.PipeEnds.{PipesState}
use Rattle.shared_tree.proofs.pipes.Pipes.hand_over.Goals as goal

pub returns-in_default-clause-sent : goal.returns-in_default-clause-sent
returns-in_default-clause-sent c =
    let a = c.self.inside in
    let ready = subst (λ (p : PipesState). IsReady p.numbers p.ends c.args.at c.args.batch) (sym c.self.view_is) c.requires in
    let h = delivered a.numbers.items a.ends.items c.args.at c.args.batch c.self.invariant.0.0 ready c.self.invariant.0.1 c.self.invariant.1 in
    sym (ap (λ o. pushed_by o c.args.at (sents a.ends.items)) c.in_default.is) ∙ h
    ∙ ap (λ (p : PipesState). deliver c.args.batch p.numbers (sents p.ends)) c.self.view_is

pub returns-in_default-at-clause-sent : goal.returns-in_default-at-clause-sent
returns-in_default-at-clause-sent c =
    let a = c.self.inside in
    let ready = subst (λ (p : PipesState). IsReady p.numbers p.ends c.args.at c.args.batch) (sym c.self.view_is) c.requires in
    let h = delivered a.numbers.items a.ends.items c.args.at c.args.batch c.self.invariant.0.0 ready c.self.invariant.0.1 c.self.invariant.1 in
    sym (ap (λ o. pushed_by c.args.batch o (sents a.ends.items)) c.in_default-at.is ∙ ap (λ o. pushed_by o None (sents a.ends.items)) c.in-Some.is)
    ∙ h ∙ ap (λ (p : PipesState). deliver c.args.batch p.numbers (sents p.ends)) c.self.view_is

pub invariant_of-self-2 : goal.invariant_of-self-2
invariant_of-self-2 c = (
  c.self.invariant.0,
  pushed-length c.self.inside.numbers.items c.self.inside.ends.items c.push_at.new.pipes.items c.in-Some-at.at
      c.in-Some.batch c.self.invariant.1 c.push_at.ensures,
)

pub returns-clause-sent : goal.returns-clause-sent
returns-clause-sent c =
    let a = c.self.inside in
    let ready = subst (λ (p : PipesState). IsReady p.numbers p.ends c.args.at c.args.batch) (sym c.self.view_is) c.requires in
    let h = delivered a.numbers.items a.ends.items c.args.at c.args.batch c.self.invariant.0.0 ready c.self.invariant.0.1 c.self.invariant.1 in
    c.push_at.ensures
    ∙ sym
    (ap (λ o. pushed_by c.args.batch o (sents a.ends.items)) c.in-Some-at.is
    ∙ ap (λ o. pushed_by o (Some c.in-Some-at.at) (sents a.ends.items)) c.in-Some.is)
    ∙ h ∙ ap (λ (p : PipesState). deliver c.args.batch p.numbers (sents p.ends)) c.self.view_is
