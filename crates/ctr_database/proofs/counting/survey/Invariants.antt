use Rattle.ctr_database.proofs.counting.survey.Given as goal

abbrev pub ghosts-survey_opened : goal.ghosts-survey_opened
ghosts-survey_opened g a = record { first = g.D.Disk.reads a.disk }
