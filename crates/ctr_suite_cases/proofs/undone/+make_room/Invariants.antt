use Rattle.ctr_suite_cases.proofs.undone.+make_room.Given as goal

abbrev pub decreases-make_room : goal.decreases-make_room
decreases-make_room l = l.most
