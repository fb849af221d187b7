use Rattle.ctr_record_laws.proofs.Grown.{grown_sound}
use Rattle.ctr_record_laws.proofs.sound.growth_stays_sound.Goals as goal

pub returns : goal.returns
returns c = grown_sound
