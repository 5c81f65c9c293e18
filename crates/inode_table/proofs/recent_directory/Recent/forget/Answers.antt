use Rattle.inode_table.proofs.SlotLemmas.{IsRecent-later, later-none}
use Rattle.inode_table.proofs.recent_directory.Recent.forget.Goals as goal

pub invariant_of-self-else-self : goal.invariant_of-self-else-self
invariant_of-self-else-self c = IsRecent-later c.self.inside.time c.self.inside.slots.items c.self.invariant

pub returns-else-self : goal.returns-else-self
returns-else-self c p k at = later-none c.self.inside.time c.self.inside.slots.items c.self.invariant p k at
