use Rattle.ctr_record_laws.proofs.EntryLaws.{cut_step, cut_sound, cut_changes}
use Rattle.ctr_record_laws.proofs.shows.a_cut_ends_its_chain.Goals as goal

pub returns-clause-step : goal.returns-clause-step
returns-clause-step c = λ passes counted tables area e at q committed bounds sound owed. cut_step passes counted tables area e at q bounds sound owed committed

pub returns-clause-sound : goal.returns-clause-sound
returns-clause-sound c = cut_sound

pub returns-clause-changes : goal.returns-clause-changes
returns-clause-changes c = cut_changes
