use Rattle.std.proofs.Common.{◌≡◌}
use Rattle.watchtree_storm.proofs.writer.close.Given as goal

abbrev pub invariant-loop : goal.invariant-loop
invariant-loop g l = l.seat ≡ l.initial.seat
