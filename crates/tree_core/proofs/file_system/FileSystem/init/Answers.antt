use Rattle.std.proofs.Common.{◌+◌, arith, refl, sym}
use Rattle.tree_core.specs.declared.call.Call.TheVariants as call
use Rattle.tree_core.specs.declared.reply.Reply.TheVariants as reply
use Rattle.instance_table.specs.Instances.{new_instance}
use Rattle.tree_core.specs.FileSystems.{tree_in}
use Rattle.tree_core.proofs.Serving.{complete-attempts}
use Rattle.tree_core.proofs.Instances.{init-passes, IsNumbered-opened}
use Rattle.tree_core.proofs.file_system.FileSystem.init.Goals as goal

pub open-requires-clause-limit : goal.open-requires-clause-limit
open-requires-clause-limit c =
    let m = c.args.self.now in
    let passes = init-passes m.limits m.instances m.next_id c.args.limit (sym c.in_ok-check_init.ensures.passes) in
    let most = m.limits.queue_in.1 in
    (passes.0, omega arith)

pub returns : goal.returns
returns c =
    let m = c.args.self.now in
    complete-attempts m _ (call.Init c.args.limit c.args.piped) c.complete.result (reply.Instance m.next_id) c.complete.ensures
    c.in_ok-check_init.ensures.passes
    refl
    (λ i. record (tree_in m) { next_id = m.next_id + 1; instances = c.in_ok-open.ensures.ok i })
    (IsNumbered-opened (tree_in m) c.requires (new_instance m.limits c.args.limit c.args.piped)
    (init-passes m.limits m.instances m.next_id c.args.limit (sym c.in_ok-check_init.ensures.passes)).2)
    refl
