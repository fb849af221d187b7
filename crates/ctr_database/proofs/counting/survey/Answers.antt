use Rattle.std.proofs.Common.{refl}
use Rattle.ctr_database.proofs.counting.survey.Goals as goal

pub survey_opened-requires-clause-named : goal.survey_opened-requires-clause-named
survey_opened-requires-clause-named g c = refl
