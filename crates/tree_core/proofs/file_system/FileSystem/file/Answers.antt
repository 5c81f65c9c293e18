use Rattle.std.proofs.Common.{◌≡◌, ◌+◌, Option, None, inl, inr, refl, sym, ap, subst, ◌∙◌, arith}
use Rattle.inode_table.specs.TableWorld.{world_of, HasNumbersBelow}
use Rattle.inode_table.specs.Tree.{TableValue}
use Rattle.tree_paths.specs.declared.limits.Limits.{Limits}
use Rattle.tree_paths.specs.declared.refusal.Refusal.{Refusal}
use Rattle.tree_ops.specs.CallPaths.{PathsValue}
use Rattle.tree_ops.specs.ReadyCall.{PlanValue}
use Rattle.tree_ops.specs.declared.call.Counts.{Counts}
use Rattle.tree_ops.specs.declared.call.FileCall.{FileCall}
use Rattle.tree_ops.specs.Moves.{cookies_of}
use Rattle.tree_ops.specs.Refused.{refused}
use Rattle.tree_ops.specs.After.{after, answer_of, numbers_of}
use Rattle.event_rules.specs.Table.{notices_of}
use Rattle.instance_table.specs.Instances.{all_changed, told}
use Rattle.tree_core.specs.declared.call.Call.TheVariants as call
use Rattle.tree_core.specs.declared.file_system.FileSystem.{FileSystem}
use Rattle.tree_core.specs.Tree.{counts_of, cookie_now}
use Rattle.tree_core.specs.FileSystems.{tree_in, LeadsTo}
use Rattle.tree_core.proofs.Serving.{failed-attempts}
use Rattle.tree_core.proofs.Filed.{IsCarriedOut, IsCarriedOut-checked, filed-attempts, tree_in-table}
use Rattle.tree_core.proofs.Counted.{cookies-fit, cookies-there}
use Rattle.tree_core.proofs.file_system.FileSystem.file.Goals as goal

-- the row that refuses the call, by the paths that were checked
passed : (t : TableValue) (paths : PathsValue) (f : FileCall) (limits : Limits) (counts now : Counts) → counts ≡ now → paths.tree ≡ t → paths.call ≡ f
    → (o : Option Refusal) → refused (world_of paths.tree) limits counts paths.call ≡ o → refused (world_of t) limits now f ≡ o
passed t paths f limits counts now same tree call o e = sym (λ i. refused (world_of (tree i)) limits (same i) (call i)) ∙ e

pub check-requires : goal.check-requires
check-requires c =
    let w = world_of c.args.self.now.table in
    subst (λ (t : TableValue). HasNumbersBelow (world_of t) c.counts-counts.result.next_number)
    (sym (c.on-paths.ensures.tree ∙ c.resolve_recent-found.ensures.same))
    (subst (λ (x : Counts). HasNumbersBelow w x.next_number) (sym c.counts-counts.ensures) c.requires.given)

pub returns-in_err-ready : goal.returns-in_err-ready
returns-in_err-ready c =
    let m = c.args.self.now in
    let f = c.args.call.now in
    let u = c.resolve_recent-found.new.table in
    failed-attempts m (record m { table = u }) (call.File f) c.from_residual.result c.in_err-ready.field-0.0 c.from_residual.ensures.1
    (inl (passed m.table c.on-paths.result f m.limits c.counts-counts.result (counts_of (tree_in m)) c.counts-counts.ensures
    (c.on-paths.ensures.tree ∙ c.resolve_recent-found.ensures.same) c.on-paths.ensures.call _ c.in_err-ready.ensures.refused))
    (tree_in-table m u (ap world_of c.resolve_recent-found.ensures.same))

pub returns-in_err-answer : goal.returns-in_err-answer
returns-in_err-answer c =
    let m = c.args.self.now in
    let s : FileSystem = record m { notices = c.stage_notices.new.noted; staging = c.stage_notices.new.staging } in
    let u = c.carry_out.new.table in
    failed-attempts m (record s { table = u }) (call.File c.args.call.now) c.from_residual-in_err-answer.result
    c.in_err-answer.field-0.0 c.from_residual-in_err-answer.ensures.1 (inr c.in_err-answer.ensures.memory)
    (tree_in-table s u (c.in_err-answer.ensures.err_world ∙ ap world_of c.resolve_recent-found.ensures.same))

pub returns : goal.returns
returns c =
    let m = c.args.self.now in
    let w = world_of m.table in
    let u = c.carry_out.new.table in
    let f = c.args.call.now in
    let said = c.in_ok-answer.answer in
    let ready = c.in_ok-ready.ready in
    let n : FileSystem = record {
      alloc = m.alloc;
      limits = m.limits;
      table = u;
      next_number = m.next_number + c.numbers-numbers.result;
      next_cookie = m.next_cookie + c.from.result;
      next_id = m.next_id;
      instances = m.instances;
      notices = c.stage_notices.new.noted;
      staging = c.stage_notices.new.staging;
    } in
    let call : ready.plan.call ≡ f = c.in_ok-ready.ensures.call ∙ c.on-paths.ensures.call in
    let tree : ready.tree ≡ m.table = c.in_ok-ready.ensures.tree ∙ (c.on-paths.ensures.tree ∙ c.resolve_recent-found.ensures.same) in
    let same = c.resolve_recent-found.ensures.same in
    let plan = c.into_plan-plan.result in
    let done : IsCarriedOut (tree_in m) f u said = IsCarriedOut-checked (tree_in m) f plan u said
    (ap (λ (p : PlanValue). p.call) c.into_plan-plan.ensures.plan ∙ call)
    (ap (λ (p : PlanValue). p.counts) c.into_plan-plan.ensures.plan ∙ c.in_ok-ready.ensures.counts ∙ c.counts-counts.ensures)
    (c.in_ok-answer.ensures.world ∙ (λ i. after (world_of (same i)) plan.counts plan.call)) c.in_ok-answer.ensures.numbers
    (c.in_ok-answer.ensures.answer ∙ (λ i. answer_of (world_of (same i)) plan.counts plan.call)) in
    let passes : refused w m.limits (counts_of (tree_in m)) f ≡ None =
    passed m.table c.on-paths.result f m.limits c.counts-counts.result (counts_of (tree_in m)) c.counts-counts.ensures
    (c.on-paths.ensures.tree ∙ c.resolve_recent-found.ensures.same) c.on-paths.ensures.call None c.in_ok-ready.ensures.accepted in
    filed-attempts m n f said done passes c.requires refl
    (ap (λ x. m.next_number + x) (c.numbers-numbers.ensures ∙ ap numbers_of call))
    (ap (λ x. m.next_cookie + x) (c.from.ensures ∙ c.cookies-cookies.ensures ∙ (λ i. cookies_of (world_of (tree i)) (call i))))
    refl refl
    c.in_ok-is_staged.is_staged c.rest_of.result c.rest_of.ensures
    (subst (LeadsTo c.in_ok-is_staged.is_staged m.instances c.stage_notices.new.noted c.stage_notices.new.staging)
    (λ i. all_changed m.instances (told (notices_of (world_of (tree i)) (call i) (c.counts-counts.ensures i).next_cookie)))
    c.in_ok-is_staged.ensures.staged)

pub stage_notices-requires : goal.stage_notices-requires
stage_notices-requires c =
    let m = c.args.self.now in
    let w = world_of m.table in
    let now : c.counts-counts.result.next_cookie ≡ cookie_now m.next_cookie = ap (λ (x : Counts). x.next_cookie) c.counts-counts.ensures in
    let call : c.in_ok-ready.ready.plan.call ≡ c.args.call.now = c.in_ok-ready.ensures.call ∙ c.on-paths.ensures.call in
    let tree : c.in_ok-ready.ready.tree ≡ m.table = c.in_ok-ready.ensures.tree ∙ (c.on-paths.ensures.tree ∙ c.resolve_recent-found.ensures.same) in
    let accepted = passed m.table c.on-paths.result c.args.call.now m.limits c.counts-counts.result c.counts-counts.result
    refl (c.on-paths.ensures.tree ∙ c.resolve_recent-found.ensures.same) c.on-paths.ensures.call None c.in_ok-ready.ensures.accepted in
    let room = cookies-there w m.limits c.counts-counts.result m.next_cookie now c.args.call.now accepted in
    let fits = cookies-fit m.limits m.next_cookie (cookies_of w c.args.call.now) room in
    let same : cookies_of (world_of c.in_ok-ready.ready.tree) c.in_ok-ready.ready.plan.call ≡ cookies_of w c.args.call.now =
    (λ i. cookies_of (world_of (tree i)) (call i)) in
    omega (arith, fits, same, now)
