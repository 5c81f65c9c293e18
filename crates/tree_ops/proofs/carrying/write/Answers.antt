use Rattle.std.proofs.Common.{IsSome, sym, ap, subst, ◌∙◌}
use Rattle.inode_table.specs.Bytes.{written}
use Rattle.inode_table.specs.Refusals.{is_directory_seen}
use Rattle.inode_table.specs.World.{changed_at, look}
use Rattle.tree_ops.proofs.carrying.write.Goals as goal

pub write-requires-clause-resolved : goal.write-requires-clause-resolved
write-requires-clause-resolved c = c.reserve.ensures.resolved c.args.path.now c.requires.resolved

pub write-requires-clause-there : goal.write-requires-clause-there
write-requires-clause-there c = subst (λ w. IsSome (look w c.args.path.now.names)) (sym c.reserve.ensures.world) c.requires.there

pub write-requires-clause-regular : goal.write-requires-clause-regular
write-requires-clause-regular c = ap (λ w. is_directory_seen (look w c.args.path.now.names)) c.reserve.ensures.world ∙ c.requires.regular

pub returns-clause-world : goal.returns-clause-world
returns-clause-world c =
    c.write.ensures.world
    ∙ ap (λ w. changed_at w c.args.path.now.names (λ f. record f { bytes = written c.args.offset c.args.bytes.now f.bytes })) c.reserve.ensures.world
