use Rattle.event_sinks_tests.proofs.tests.books.settles_interleaved.Given as goal

abbrev pub ghosts-interleaved : goal.ghosts-interleaved
ghosts-interleaved g a = record { name = a.blank.name; parts = a.blank.parts }
