use Rattle.std.proofs.Common.{IsSome, sym, ap, subst, ◌∙◌}
use Rattle.inode_table.specs.Bytes.{resized}
use Rattle.inode_table.specs.Refusals.{is_directory_seen}
use Rattle.inode_table.specs.World.{changed_at, look}
use Rattle.tree_ops.proofs.carrying.truncate.Goals as goal

pub set_len-requires-clause-resolved : goal.set_len-requires-clause-resolved
set_len-requires-clause-resolved c = c.reserve_content.ensures.resolved c.args.path.now c.requires.resolved

pub set_len-requires-clause-there : goal.set_len-requires-clause-there
set_len-requires-clause-there c = subst (λ w. IsSome (look w c.args.path.now.names)) (sym c.reserve_content.ensures.world) c.requires.there

pub set_len-requires-clause-regular : goal.set_len-requires-clause-regular
set_len-requires-clause-regular c = ap (λ w. is_directory_seen (look w c.args.path.now.names)) c.reserve_content.ensures.world ∙ c.requires.regular

pub set_len-requires-clause-reserved : goal.set_len-requires-clause-reserved
set_len-requires-clause-reserved c = c.in_ok-reserve_content.ensures.reserved

pub returns-clause-world : goal.returns-clause-world
returns-clause-world c =
    c.set_len.ensures.world
    ∙ ap (λ w. changed_at w c.args.path.now.names (λ f. record f { bytes = resized c.args.len f.bytes })) c.reserve_content.ensures.world
