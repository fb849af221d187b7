use Rattle.ctr_record_laws.proofs.TrimLaw.{trim_step, trim_sound, other_slot}
use Rattle.ctr_record_laws.proofs.shows.a_trim_cuts_its_chain.Goals as goal

pub returns-clause-step : goal.returns-clause-step
returns-clause-step c = λ passes counted tables area e at way committed bounds sound owed. trim_step passes counted tables area e at way bounds sound owed committed

pub returns-clause-sound : goal.returns-clause-sound
returns-clause-sound c = trim_sound

pub returns-clause-changes : goal.returns-clause-changes
returns-clause-changes c = λ passes tables area e at way owed. other_slot (area.slot at) way owed.used.1 owed.some
