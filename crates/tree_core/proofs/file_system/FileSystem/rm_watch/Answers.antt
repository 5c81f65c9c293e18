use Rattle.std.proofs.Common.{w32, ap, sym, ◌∙◌, refl}
use Rattle.std.proofs.lemmas.Int.{to_z-of_z}
use Rattle.std.specs.Option.{option_copied}
use Rattle.tree_paths.specs.Rows.{first_row}
use Rattle.tree_core.specs.declared.call.Call.TheVariants as call
use Rattle.instance_table.specs.Instances.{Instances, changed, unwatching}
use Rattle.tree_core.specs.declared.reply.Reply.TheVariants as reply
use Rattle.tree_core.specs.FileSystems.{tree_in}
use Rattle.tree_core.specs.Tree.{rm_watch_rows}
use Rattle.tree_core.proofs.Serving.{complete-attempts}
use Rattle.tree_core.proofs.Instances.{IsNumbered-changed}
use Rattle.tree_core.proofs.file_system.FileSystem.rm_watch.Goals as goal

pub returns : goal.returns
returns c =
    let m = c.args.self.now in
    let same = to_z-of_z w32 c.args.wd c.ranges.wd in
    complete-attempts m _ (call.RmWatch c.args.id c.args.wd) c.complete.result reply.Done c.complete.ensures
    (ap (λ o. first_row (rm_watch_rows c.args.wd o)) (sym c.find.ensures)
    ∙ sym (ap (λ z. first_row (rm_watch_rows z (option_copied c.find.result))) same) ∙ c.in_ok-check_rm_watch.ensures.passes)
    refl
    (ap (λ (x : Instances). record (tree_in m) { instances = x }) (c.unwatch.ensures ∙ ap (λ z. changed m.instances c.args.id (unwatching z)) same))
    (IsNumbered-changed (tree_in m) c.requires c.args.id (unwatching c.args.wd))
    refl
