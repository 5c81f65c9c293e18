use Rattle.std.proofs.Common.{◌≡◌, ℕ, List, Bor, ap, ◌∙◌}
use Rattle.tree_ops.specs.declared.call.FileCall.TheVariants.{ReadFile}
use Rattle.tree_ops.specs.declared.answer.Answer.TheVariants.{Bytes}
use Rattle.tree_core.specs.FileSystems.{tree_in}
use Rattle.tree_core.specs.Journal.{now}
use Rattle.tree_core.specs.Tree.{counts_of}
use Rattle.tree_core.proofs.Peeked.{said-err, said-ok}
use Rattle.tree_core.proofs.state.State.peek_bytes.Goals as goal

pub returns : goal.returns
returns c =
    let m = c.self.inside.file_system in
    let is : tree_in m ≡ now c.args.self.now = c.self.invariant.stands ∙ ap now c.self.view_is in
    let counts = counts_of (tree_in m) in
    record {
      ok =
          said-ok (now c.args.self.now) m (ReadFile c.args.path.now c.args.offset c.args.count)
          (λ (bytes : Bor (List ℕ)). Bytes bytes.now) is c.peek_bytes.result (c.peek_bytes.ensures.ok m.limits counts);
      err =
          said-err (now c.args.self.now) m (ReadFile c.args.path.now c.args.offset c.args.count) is c.peek_bytes.result
          (c.peek_bytes.ensures.err m.limits counts);
    }
