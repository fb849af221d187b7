use Rattle.ctr_suite_cases.proofs.run.play_sessions.Given as goal

abbrev pub ghosts-play : goal.ghosts-play
ghosts-play a = record { name = a.blank.name; parts = a.blank.parts }
