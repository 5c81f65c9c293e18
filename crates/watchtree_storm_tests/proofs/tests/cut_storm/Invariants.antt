use Rattle.watchtree_storm_tests.proofs.tests.cut_storm.Given as goal

abbrev pub ghosts-cut_before_it : goal.ghosts-cut_before_it
ghosts-cut_before_it g a = record { name = a.blank.name; parts = a.blank.parts }
