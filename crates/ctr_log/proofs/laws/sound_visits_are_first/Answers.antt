use Rattle.ctr_log.proofs.VisitLaws.{file_bytes}
use Rattle.ctr_log.proofs.SoundLaws.{file_front, file_all, kept_front, kept_all}
use Rattle.ctr_log.proofs.laws.sound_visits_are_first.Goals as goal

pub returns-clause-file : goal.returns-clause-file
returns-clause-file c = file_front

pub returns-clause-all : goal.returns-clause-all
returns-clause-all c = file_all

pub returns-clause-kept : goal.returns-clause-kept
returns-clause-kept c = kept_front

pub returns-clause-kept_all : goal.returns-clause-kept_all
returns-clause-kept_all c = kept_all

pub returns-clause-bytes : goal.returns-clause-bytes
returns-clause-bytes c = file_bytes
