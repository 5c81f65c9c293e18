use Rattle.std.proofs.Common.{◌≡◌, subst, ap, ◌∙◌}
use Rattle.std.specs.Prelude.{IfOk}
use Rattle.inode_table.specs.World.{World}
use Rattle.tree_core.specs.Journal.{Journaled, now}
use Rattle.tree_core.specs.Peeks.{first_path}
use Rattle.tree_core.specs.Tree.{Tree}
use Rattle.tree_core.proofs.PathsFound.{path-found}
use Rattle.tree_core.proofs.state.State.path_of.Goals as goal

pub returns-clause-ok : goal.returns-clause-ok
returns-clause-ok c =
    let is = ap (λ (t : Tree). t.world) c.self.invariant.stands ∙ ap (λ (s : Journaled). (now s).world) c.self.view_is in
    let here = path-found c.deref.result.now c.args.number _ c.first_of.result (c.deref.ensures.value ∙ c.in_ok-rows.ensures.world) c.first_of.ensures.ok in
    subst (λ (w : World). IfOk c.first_of.result (λ path. path ≡ first_path w c.args.number)) is here
