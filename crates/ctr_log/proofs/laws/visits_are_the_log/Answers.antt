use Rattle.ctr_log.proofs.VisitLaws.{kept_bytes, kept_places, kept_numbers}
use Rattle.ctr_log.proofs.laws.visits_are_the_log.Goals as goal

pub returns-clause-records : goal.returns-clause-records
returns-clause-records c file first image = kept_bytes file first image

pub returns-clause-places : goal.returns-clause-places
returns-clause-places c file first image = kept_places file first image

pub returns-clause-numbers : goal.returns-clause-numbers
returns-clause-numbers c file first image = kept_numbers file first image
