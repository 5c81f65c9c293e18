use Rattle.shared_tree_tests.proofs.tests.refused.some_calls_take_no_memory.Given as goal

abbrev pub ghosts-takes_none : goal.ghosts-takes_none
ghosts-takes_none g a = record { name = a.blank.name; parts = a.blank.parts }
