use Rattle.ctr_area.proofs.Fresh.{fresh_sound, fresh_bare, fresh_rows}
use Rattle.ctr_area.proofs.laws.new_database.Goals as goal

pub returns-clause-sound : goal.returns-clause-sound
returns-clause-sound c = fresh_sound

pub returns-clause-bare : goal.returns-clause-bare
returns-clause-bare c = fresh_bare

pub returns-clause-rows : goal.returns-clause-rows
returns-clause-rows c = fresh_rows
