use Rattle.shared_tree_tests.proofs.tests.threads.two_threads_take_and_call.Given as goal

abbrev pub ghosts-goes_beside : goal.ghosts-goes_beside
ghosts-goes_beside g a = record { name = a.blank.name; parts = a.blank.parts }
