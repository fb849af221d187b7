use Rattle.ctr_names.proofs.Fates.{changed_same}
use Rattle.ctr_names.proofs.Told.{changed_told, steady_untold}
use Rattle.ctr_names.proofs.finding.who_changed_a_name_is_told.Goals as goal

pub returns-clause-test : goal.returns-clause-test
returns-clause-test c = λ counted tables area xids snapshot n x sound is stands old. changed_same counted tables area sound xids is snapshot n stands x old

pub returns-clause-changed : goal.returns-clause-changed
returns-clause-changed c = λ counted low tables area xids state look f sound names looks lt named is. changed_told counted low tables area xids state look sound names looks f lt named is

pub returns-clause-steady : goal.returns-clause-steady
returns-clause-steady c = λ counted low tables area xids state look sound names looks steady. steady_untold counted low tables area xids state look sound names looks steady
