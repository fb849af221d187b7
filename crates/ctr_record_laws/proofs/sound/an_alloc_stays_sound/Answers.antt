use Rattle.ctr_record_laws.proofs.Owning.{alloc_sound}
use Rattle.ctr_record_laws.proofs.sound.an_alloc_stays_sound.Goals as goal

pub returns : goal.returns
returns c = alloc_sound
