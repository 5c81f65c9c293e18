use Rattle.std.proofs.Common.{◌≡◌, ℕ, List, ap, ◌∙◌}
use Rattle.tree_ops.specs.declared.call.FileCall.TheVariants.{List as Listed}
use Rattle.tree_ops.specs.declared.answer.Answer.TheVariants.{Names}
use Rattle.tree_core.specs.FileSystems.{tree_in}
use Rattle.tree_core.specs.Journal.{now}
use Rattle.tree_core.specs.Tree.{counts_of}
use Rattle.tree_core.proofs.Peeked.{may-err, said-ok}
use Rattle.tree_core.proofs.state.State.peek_names.Goals as goal

pub returns : goal.returns
returns c =
    let m = c.self.inside.file_system in
    let is : tree_in m ≡ now c.args.self.now = c.self.invariant.stands ∙ ap now c.self.view_is in
    let counts = counts_of (tree_in m) in
    record {
      ok =
          said-ok (now c.args.self.now) m (Listed c.args.path.now) (λ (names : List (List ℕ)). Names names) is c.peek_names.result
          (c.peek_names.ensures.ok m.limits counts);
      err = may-err (now c.args.self.now) m (Listed c.args.path.now) is c.peek_names.result (c.peek_names.ensures.err m.limits counts);
    }
