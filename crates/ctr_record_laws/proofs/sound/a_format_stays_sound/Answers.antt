use Rattle.ctr_record_laws.proofs.Format.{format_sound}
use Rattle.ctr_record_laws.proofs.sound.a_format_stays_sound.Goals as goal

pub returns : goal.returns
returns c = format_sound
