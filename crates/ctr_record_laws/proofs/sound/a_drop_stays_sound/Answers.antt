use Rattle.ctr_record_laws.proofs.Drop.{drop_sound}
use Rattle.ctr_record_laws.proofs.sound.a_drop_stays_sound.Goals as goal

pub returns : goal.returns
returns c = drop_sound
