use Rattle.std.proofs.Common.{rules, ◌≡◌, sym, subst}
use Rattle.std.specs.Prelude.{Result, Ok}
use Rattle.tree_paths.specs.declared.refusal.Refusal.{Refusal}
use Rattle.tree_core.specs.declared.call.Call.{Call}
use Rattle.watchtree_c.specs.Recorded.{IsRecorded}
use Rattle.watchtree_c.proofs.Recorded.{recorded}
use Rattle.watchtree_c.proofs.tree.record.Goals as goal

pub returns-clause-ok : goal.returns-clause-ok
returns-clause-ok c =
    let old = c.args.state.now in
    let new = c.record.new.self in
    let is : c.args.call ≡ Ok c.in_ok-call.field-0 = search rules in
    subst (λ (call : Result Call Refusal). IsRecorded old call new) (sym is) (recorded old new c.in_ok-call.field-0 _ c.in_ok-record.ensures.applied)
