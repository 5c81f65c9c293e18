use Rattle.shared_tree_tests.proofs.tests.stories.plays.Given as goal

abbrev pub ghosts-start : goal.ghosts-start
ghosts-start g a = record { name = a.blank.name; parts = a.blank.parts }
