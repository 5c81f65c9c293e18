use Rattle.watchtree_storm_tests.proofs.tests.asks.Given as goal

abbrev pub ghosts-run : goal.ghosts-run
ghosts-run g a = record { name = a.blank.name; parts = a.blank.parts }
