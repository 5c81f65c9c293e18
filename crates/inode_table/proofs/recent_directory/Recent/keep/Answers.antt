use Rattle.std.proofs.Common.{inl, inr, ap, subst, take, ◌∙◌}
use Rattle.tree_paths.specs.Paths.{names_of}
use Rattle.inode_table.specs.Recent.{IsKnown}
use Rattle.inode_table.proofs.SlotLemmas.{put-known}
use Rattle.inode_table.proofs.recent_directory.Recent.keep.Goals as goal

pub returns-then-at-len : goal.returns-then-at-len
returns-then-at-len c p k at =
    let new = c.set.new.self in
    elim (put-known c.self.inside.time c.self.inside.slots.items c.args.at new p k at) [
      | inl old ↦ inl (subst (λ v. IsKnown v p k) c.self.view_is old)
      | inr is ↦
          inr (is.0 ∙ ap names_of (ap (λ n. take n new.text) c.set.ensures.len ∙ c.set.ensures.text), is.1 ∙ c.set.ensures.key ∙ c.in-Ok.ensures.1)
    ]
