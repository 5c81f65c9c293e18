use Rattle.event_sinks_tests.proofs.tests.stories.plays_out.Given as goal

abbrev pub ghosts-plays : goal.ghosts-plays
ghosts-plays g a = record { name = a.blank.name; parts = a.blank.parts }
