use Rattle.std.proofs.Common.{◌≡◌, false, sym, subst, ◌∙◌}
use Rattle.inode_table.specs.Kept.{rows_of, is_directory}
use Rattle.inode_table.proofs.TreeLemmas.{same_some}
use Rattle.inode_table.proofs.recent_directory.forget_any_directory.Goals as goal

pub returns-in-Some : goal.returns-in-Some
returns-in-Some c p k at =
    let h = c.forget_directory.ensures p k at in
    (h.0, λ j e. subst (λ i. is_directory (rows_of c.args.nodes.now) i ≡ false) (same_some c.in-Some.key j (sym c.in-Some.is ∙ e)) h.1)
