use Rattle.watchtree_storm.specs.Storm.{AreTurns, part_of}
use Rattle.watchtree_storm.proofs.writer.Writer.write.Given as goal

abbrev pub invariant-loop-number : goal.invariant-loop-number
invariant-loop-number g l = AreTurns (part_of l.fn.self) l.number l.fn.seat l.seat
