use Rattle.event_sinks_tests.proofs.tests.books.two_threads_without_pumps_are_settled.Given as goal

abbrev pub ghosts-written : goal.ghosts-written
ghosts-written g a = record { name = a.blank.name; parts = a.blank.parts }
