use Rattle.ctr_record_laws.proofs.RevertLaw.{revert_step, revert_sound, revert_ways}
use Rattle.ctr_record_laws.proofs.shows.a_revert_takes_the_head.Goals as goal

pub returns-clause-step : goal.returns-clause-step
returns-clause-step c = λ number counted tables area e at way committed bounds sound agrees owed. revert_step counted tables area e at way bounds sound owed number committed agrees

pub returns-clause-sound : goal.returns-clause-sound
returns-clause-sound c = revert_sound

pub returns-clause-ways : goal.returns-clause-ways
returns-clause-ways c = revert_ways
