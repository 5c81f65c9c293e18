use Rattle.std.proofs.Common.{[], ◌∷◌, is_none, refl, ◌∙◌, ap, sym}
use Rattle.tree_core.specs.declared.file_system.FileSystem.{FileSystem}
use Rattle.tree_paths.specs.Rows.{first_row, row}
use Rattle.tree_paths.specs.declared.refusal.Refusal.TheVariants.{Ebadf}
use Rattle.tree_core.specs.declared.call.Call.TheVariants as call
use Rattle.tree_core.specs.declared.reply.Reply.TheVariants as reply
use Rattle.tree_core.specs.FileSystems.{tree_in}
use Rattle.tree_core.proofs.Serving.{complete-attempts}
use Rattle.tree_core.proofs.Instances.{IsNumbered-closed}
use Rattle.tree_core.proofs.file_system.FileSystem.close.Goals as goal

pub returns : goal.returns
returns c =
    let m : FileSystem = c.args.self.now in
    complete-attempts m _ (call.Close c.args.id) c.complete.result reply.Done c.complete.ensures
    (ap (λ o. first_row (row (is_none o) Ebadf ∷ [])) (sym c.find.ensures) ∙ c.in_ok-check_close.ensures.passes)
    refl
    (λ i. record (tree_in m) { instances = c.close.ensures i })
    (IsNumbered-closed (tree_in m) c.requires c.args.id)
    refl
