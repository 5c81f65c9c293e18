use Rattle.watchtree_storm.specs.Storm.{IsHeldBack}
use Rattle.watchtree_storm.proofs.writer.is_let_through.Given as goal

abbrev pub invariant-loop-turn : goal.invariant-loop-turn
invariant-loop-turn g l = IsHeldBack (g.G.Gate.may_pass l.fn.gate l.fn.who) l.turn
