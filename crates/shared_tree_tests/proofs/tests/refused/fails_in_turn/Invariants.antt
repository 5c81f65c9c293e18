use Rattle.shared_tree_tests.proofs.tests.refused.fails_in_turn.Given as goal

abbrev pub ghosts-fails_at : goal.ghosts-fails_at
ghosts-fails_at g a = record { name = a.blank.name; parts = a.blank.parts }
