use Rattle.ctr_world.proofs.engine.Engine.undo.Given as goal

abbrev pub ghosts-undo_next : goal.ghosts-undo_next
ghosts-undo_next g a = record { name = a.blank.name; parts = a.blank.parts }
