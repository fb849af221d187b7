use Rattle.ctr_record_laws.proofs.Forget.{forget_sound}
use Rattle.ctr_record_laws.proofs.sound.a_forget_stays_sound.Goals as goal

pub returns : goal.returns
returns c = forget_sound
