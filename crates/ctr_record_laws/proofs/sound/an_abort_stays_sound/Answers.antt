use Rattle.ctr_record_laws.proofs.Abort.{abort_sound}
use Rattle.ctr_record_laws.proofs.sound.an_abort_stays_sound.Goals as goal

pub returns : goal.returns
returns c = abort_sound
