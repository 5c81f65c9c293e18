use Rattle.std.proofs.Common.{rules}
use Rattle.watchtree_storm.proofs.writer.close_both.Goals as goal

pub returns : goal.returns
returns g c = (c.pump.new.seat, c.pump-2.new.seat, c.close.new.seat, search rules, search rules, search rules, search rules)
