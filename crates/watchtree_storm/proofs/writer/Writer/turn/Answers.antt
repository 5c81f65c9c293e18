use Rattle.std.proofs.Common.{rules}
use Rattle.watchtree_storm.proofs.writer.Writer.turn.Goals as goal

pub returns : goal.returns
returns g c = (c.make_call.new.seat, search rules, search rules)
