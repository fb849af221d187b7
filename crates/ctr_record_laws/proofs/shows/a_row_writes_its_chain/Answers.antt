use Rattle.ctr_record_laws.proofs.RowLaw.{row_step, row_sound}
use Rattle.ctr_record_laws.proofs.shows.a_row_writes_its_chain.Goals as goal

pub returns-clause-step : goal.returns-clause-step
returns-clause-step c = λ number counted tables area m committed bounds sound agrees owed. row_step counted tables area m bounds sound owed number committed agrees

pub returns-clause-sound : goal.returns-clause-sound
returns-clause-sound c = row_sound
