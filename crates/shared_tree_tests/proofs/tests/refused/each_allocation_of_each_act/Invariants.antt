use Rattle.shared_tree_tests.proofs.tests.refused.each_allocation_of_each_act.Given as goal

abbrev pub ghosts-fails_at : goal.ghosts-fails_at
ghosts-fails_at g a = record { name = a.blank.name; parts = a.blank.parts }
