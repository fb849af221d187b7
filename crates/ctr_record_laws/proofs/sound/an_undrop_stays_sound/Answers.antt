use Rattle.ctr_record_laws.proofs.Undrop.{undrop_sound}
use Rattle.ctr_record_laws.proofs.sound.an_undrop_stays_sound.Goals as goal

pub returns : goal.returns
returns c = undrop_sound
