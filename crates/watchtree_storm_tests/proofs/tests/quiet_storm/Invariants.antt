use Rattle.watchtree_storm_tests.proofs.tests.quiet_storm.Given as goal

abbrev pub ghosts-quiet : goal.ghosts-quiet
ghosts-quiet g a = record { name = a.blank.name; parts = a.blank.parts }
