use Rattle.ctr_world.proofs.engine.Engine.serve.Given as goal

abbrev pub ghosts-act : goal.ghosts-act
ghosts-act g a = record { name = a.blank.name; parts = a.blank.parts }
