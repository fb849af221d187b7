use Rattle.ctr_model.proofs.Sound.{legal_states_are_sound}
use Rattle.ctr_model.proofs.laws.legal_states_are_sound.Goals as goal

pub returns : goal.returns
returns c = legal_states_are_sound
