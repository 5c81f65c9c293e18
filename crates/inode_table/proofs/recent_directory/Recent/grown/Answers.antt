use Rattle.std.proofs.Common.{refl}
use Rattle.inode_table.proofs.SlotLemmas.{blank-none}
use Rattle.inode_table.proofs.recent_directory.Recent.grown.Goals as goal

pub returns : goal.returns
returns c p k at = blank-none _ _ c.in_ok-vec.field-0.items (c.in_ok-vec.ensures.items_if_clones_equal (λ y e. e)) refl p k at
