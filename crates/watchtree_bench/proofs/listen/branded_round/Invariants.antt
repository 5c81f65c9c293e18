use Rattle.watchtree_bench.proofs.listen.branded_round.Given as goal

abbrev pub ghosts-round : goal.ghosts-round
ghosts-round a = record { name = a.blank.name; parts = a.blank.parts }
