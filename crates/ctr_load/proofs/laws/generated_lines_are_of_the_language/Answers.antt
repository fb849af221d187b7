use Rattle.ctr_load.proofs.Each.{sessions_are_these}
use Rattle.ctr_load.proofs.Few.{lines_are_few}
use Rattle.ctr_load.proofs.Spelled.{lines_are_spelled}
use Rattle.ctr_load.proofs.laws.generated_lines_are_of_the_language.Goals as goal

pub returns-clause-sessions : goal.returns-clause-sessions
returns-clause-sessions c = sessions_are_these

pub returns-clause-spelled : goal.returns-clause-spelled
returns-clause-spelled c = lines_are_spelled

pub returns-clause-few : goal.returns-clause-few
returns-clause-few c = lines_are_few
