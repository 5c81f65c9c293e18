use Rattle.std.proofs.Common.{◌≡◌, ap, ◌∙◌}
use Rattle.tree_ops.specs.declared.answer.Answer.{Answer}
use Rattle.tree_ops.specs.declared.call.FileCall.TheVariants.{Stat}
use Rattle.tree_core.specs.FileSystems.{tree_in}
use Rattle.tree_core.specs.Journal.{now}
use Rattle.tree_core.specs.Tree.{counts_of}
use Rattle.tree_core.proofs.Peeked.{of-answer, said-ok, said-err}
use Rattle.tree_core.proofs.state.State.peek_stat.Goals as goal

pub returns : goal.returns
returns c =
    let m = c.self.inside.file_system in
    let is : tree_in m ≡ now c.args.self.now = c.self.invariant.stands ∙ ap now c.self.view_is in
    let counts = counts_of (tree_in m) in
    record {
      ok =
          said-ok (now c.args.self.now) m (Stat c.args.path.now) (λ (a : Answer). a) is c.peek_stat.result
          (of-answer _ _ (c.peek_stat.ensures m.limits counts)).0;
      err = said-err (now c.args.self.now) m (Stat c.args.path.now) is c.peek_stat.result (of-answer _ _ (c.peek_stat.ensures m.limits counts)).1;
    }
