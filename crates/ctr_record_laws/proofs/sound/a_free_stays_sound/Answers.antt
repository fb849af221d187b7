use Rattle.ctr_record_laws.proofs.Owning.{free_sound}
use Rattle.ctr_record_laws.proofs.sound.a_free_stays_sound.Goals as goal

pub returns : goal.returns
returns c = free_sound
