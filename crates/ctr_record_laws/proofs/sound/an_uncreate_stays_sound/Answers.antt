use Rattle.ctr_record_laws.proofs.Uncreate.{uncreate_sound}
use Rattle.ctr_record_laws.proofs.sound.an_uncreate_stays_sound.Goals as goal

pub returns : goal.returns
returns c = uncreate_sound
