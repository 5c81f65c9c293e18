use Rattle.std.proofs.Common.{take, drop, sym, ap, ◌∙◌}
use Rattle.inode_table.specs.TableWorld.{world_of}
use Rattle.event_rules.proofs.EveryCall.{has_byte}
use Rattle.event_rules.proofs.Reading.{bytes-none, nothing-read}
use Rattle.event_rules.proofs.telling.is_answered.Goals as goal

pub returns-in-None : goal.returns-in-None
returns-in-None g c =
    let w = world_of c.args.at.now.at.tree in
    sym (ap (λ bytes. has_byte (take c.args.count (drop c.args.offset bytes))) (bytes-none w c.args.at.now.at.path.names (sym c.object.ensures ∙ c.in-None.is))
    ∙ nothing-read c.args.offset c.args.count)
