use Rattle.std.proofs.Common.{◌≡◌, ℕ, List, false, None, Option, Some, IfSome, sym, ap, subst, ◌∙◌}
use Rattle.std.specs.FinMap as finmap
use Rattle.inode_table.specs.declared.seen.Seen.{Seen}
use Rattle.inode_table.specs.Resolution.{IsResolved, ResolvedPath}
use Rattle.inode_table.specs.TableWorld.{world_of}
use Rattle.inode_table.specs.Tree.{TableValue}
use Rattle.inode_table.specs.World.{look, with_move, with_swap, without_lost}
use Rattle.tree_ops.specs.declared.moves.Moves.{Moves}
use Rattle.tree_ops.specs.declared.moves.Moves.TheVariants.{Move, Exchange}
use Rattle.tree_ops.specs.CallPaths.{path_of, other_path_of}
use Rattle.tree_ops.specs.ReadyCall.{IsReady, PlanValue}
use Rattle.tree_ops.specs.Refused.{refusal_seen, has_names_seen}
use Rattle.tree_ops.proofs.Changed.{other-paths}
use Rattle.tree_ops.proofs.Moving.{MoveKnown, SwapKnown, moves-known, swaps-known, moves-world, swaps-world}
use Rattle.tree_ops.proofs.carrying.apply.Goals as goal

-- the paths of the plan are those of its call
old-name : {t : TableValue} {plan view : PlanValue} → IsReady t plan → view ≡ plan → view.path.names ≡ path_of plan.call
old-name r view_is = ap (λ (x : PlanValue). x.path.names) view_is ∙ r.names

new-name : {t : TableValue} {plan : PlanValue} {path : ResolvedPath} → IsReady t plan → path ≡ plan.other_path → path.names ≡ other_path_of plan.call
new-name r is = ap (λ (x : ResolvedPath). x.names) is ∙ r.other_names

-- what the plan moves is what its call does
moves-by : {t : TableValue} {plan view : PlanValue} {moves : Moves} (r : IsReady t plan) → view ≡ plan → view.moves ≡ moves → plan.moves ≡ moves
moves-by r view_is is = sym (ap (λ (x : PlanValue). x.moves) view_is) ∙ is

move-at : (t : TableValue) (plan : PlanValue) (r : IsReady t plan) → plan.moves ≡ Move → (old new : List (List ℕ))
    → old ≡ path_of plan.call → new ≡ other_path_of plan.call → MoveKnown (look (world_of t)) old new
unfolding refusal_seen
move-at t plan r is old new o n =
    subst (λ (x : List (List ℕ) × List (List ℕ)). MoveKnown (look (world_of t)) x.0 x.1) (λ i. (sym o i, sym n i))
    (moves-known (look (world_of t)) r.limits plan.counts plan.call r.accepted (sym r.moves ∙ is))

swap-at : (t : TableValue) (plan : PlanValue) (r : IsReady t plan) → plan.moves ≡ Exchange → (old new : List (List ℕ))
    → old ≡ path_of plan.call → new ≡ other_path_of plan.call → SwapKnown (look (world_of t)) old new
unfolding refusal_seen
swap-at t plan r is old new o n =
    subst (λ (x : List (List ℕ) × List (List ℕ)). SwapKnown (look (world_of t)) x.0 x.1) (λ i. (sym o i, sym n i))
    (swaps-known (look (world_of t)) r.limits plan.counts plan.call r.accepted (sym r.moves ∙ is))

nameless : (o : Option Seen) → has_names_seen o ≡ false → IfSome o (λ s. s.has_names ≡ false)
nameless None e = tt
nameless (Some s) e = e

pub replace_name-requires : goal.replace_name-requires
replace_name-requires c =
    let at = look (world_of c.args.table.now) in
    let old = c.plan.inside.path.now.names in
    let new = c.other_path.result.now.names in
    let m = move-at c.args.table.now c.args.plan.now c.requires.ready (moves-by c.requires.ready c.plan.view_is c.in-Move.is)
    old new (old-name c.requires.ready c.plan.view_is) (new-name c.requires.ready c.other_path.ensures) in
    record {
      resolved = subst (λ (x : PlanValue). IsResolved c.args.table.now x.path) (sym c.plan.view_is) c.requires.ready.path;
      other_resolved = subst (IsResolved c.args.table.now) (sym c.other_path.ensures) c.requires.ready.other_path;
      source = m.known.there;
      named = m.known.named;
      other_named = m.known.other_named;
      other = other-paths at old new m.known.there m.apart;
      below = m.known.below;
      directory = m.known.directory;
      empty = nameless (at new) (m.known.empty m.apart);
    }

pub swap_names-requires : goal.swap_names-requires
swap_names-requires c =
    let at = look (world_of c.args.table.now) in
    let old = c.plan.inside.path.now.names in
    let new = c.other_path-in-Exchange.result.now.names in
    let m = swap-at c.args.table.now c.args.plan.now c.requires.ready (moves-by c.requires.ready c.plan.view_is c.in-Exchange.is) old new
    (old-name c.requires.ready c.plan.view_is) (new-name c.requires.ready c.other_path-in-Exchange.ensures) in
    record {
      resolved = subst (λ (x : PlanValue). IsResolved c.args.table.now x.path) (sym c.plan.view_is) c.requires.ready.path;
      other_resolved = subst (IsResolved c.args.table.now) (sym c.other_path-in-Exchange.ensures) c.requires.ready.other_path;
      there = m.known.there;
      other_there = m.known.other_there;
      other = other-paths at old new m.known.there m.apart;
      below = m.known.below m.apart;
      above = m.known.above m.apart;
    }

pub returns-in_ok-replace_name-in-Move-clause-world : goal.returns-in_ok-replace_name-in-Move-clause-world
returns-in_ok-replace_name-in-Move-clause-world c =
    let w = world_of c.args.table.now in
    let o = old-name c.requires.ready c.plan.view_is in
    let n = new-name c.requires.ready c.other_path.ensures in
    let is = sym c.requires.ready.moves ∙ moves-by c.requires.ready c.plan.view_is c.in-Move.is in
    c.in_ok-replace_name-in-Move.ensures.world ∙ (λ i. without_lost (with_move w (o i) (n i)) (finmap.get w.paths (n i)))
    ∙ sym (moves-world w c.law.ensures.world c.args.plan.now.counts c.args.plan.now.call is)

pub returns-in-Exchange-clause-world : goal.returns-in-Exchange-clause-world
returns-in-Exchange-clause-world c =
    let w = world_of c.args.table.now in
    let o = old-name c.requires.ready c.plan.view_is in
    let n = new-name c.requires.ready c.other_path-in-Exchange.ensures in
    let is = sym c.requires.ready.moves ∙ moves-by c.requires.ready c.plan.view_is c.in-Exchange.is in
    c.swap_names.ensures.world ∙ (λ i. with_swap w (o i) (n i)) ∙ sym (swaps-world w c.law.ensures.world c.args.plan.now.counts c.args.plan.now.call is)
