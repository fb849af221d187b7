use Rattle.ctr_suite_cases.proofs.undone.undo_over.Given as goal

abbrev pub ghosts-take_list : goal.ghosts-take_list
ghosts-take_list a = record { name = a.blank.name; parts = a.blank.parts }
