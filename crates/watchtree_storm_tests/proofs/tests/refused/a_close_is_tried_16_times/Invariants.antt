use Rattle.watchtree_storm_tests.proofs.tests.refused.a_close_is_tried_16_times.Given as goal

abbrev pub ghosts-closed_with : goal.ghosts-closed_with
ghosts-closed_with g a = record { name = a.blank.name; parts = a.blank.parts }
