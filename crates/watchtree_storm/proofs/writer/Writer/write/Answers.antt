use Rattle.watchtree_storm.specs.Storm.{part_of}
use Rattle.watchtree_storm.proofs.Turns.{first-turn, more-turns}
use Rattle.watchtree_storm.proofs.writer.Writer.write.Goals as goal

pub loop-number-init : goal.loop-number-init
loop-number-init g c = first-turn (part_of c.args.self.now) c.args.seat

pub loop-number-preserved : goal.loop-number-preserved
loop-number-preserved g c =
    more-turns (part_of c.args.self.now) c.loop-number.number c.args.seat c.loop-number.seat c.turn.new.seat
    c.loop-number.invariant c.turn.ensures
